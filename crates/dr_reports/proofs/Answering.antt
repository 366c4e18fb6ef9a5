-- What a worker answers, by what its calls came to and whether its handler found no memory.
use Rattle.std.proofs.Common.{◌≡◌, ◌⊎◌, Bool, true, false, Option, Some, inl, inr, subst, sym, ◌∙◌}
use Rattle.dr_workers.specs.declared.fault.WorkFault.{WorkFault}
use Rattle.dr_workers.specs.declared.fault.WorkFault.TheVariants.{Memory, Stopped}
use Rattle.dr_reports.specs.Keeping.{AnswersFor}

-- memory may always be lacking
pub lacks_memory : (failed : Bool) (fault answer : Option WorkFault) → answer ≡ Some Memory → AnswersFor failed fault answer
lacks_memory true fault answer is = is
lacks_memory false fault answer is = inr is

-- and else the handler found some
pub answers_calls : (failed : Bool) (fault answer : Option WorkFault) → failed ≡ false → answer ≡ fault → AnswersFor failed fault answer
answers_calls failed fault answer well is = subst (λ b. AnswersFor b fault answer) (sym well) (inl is)

-- either way it is one of the two
pub one_of_both : (failed : Bool) (fault answer : Option WorkFault) → AnswersFor failed fault answer → (answer ≡ fault) ⊎ (answer ≡ Some Memory)
one_of_both true fault answer is = inr is
one_of_both false fault answer is = is

stopped : {may_stop : Type 0} (fault answer : Option WorkFault) → (answer ≡ fault) ⊎ (answer ≡ Some Memory) → (fault ≡ Some Stopped → may_stop)
    → answer ≡ Some Stopped → may_stop
stopped fault answer (inl same) may is = may (sym same ∙ is)
stopped fault answer (inr memory) may is = absurd (cc)

-- a worker that answers that it was stopped was stopped
pub stopped_by : {may_stop : Type 0} (failed : Bool) (fault answer : Option WorkFault) → AnswersFor failed fault answer → (fault ≡ Some Stopped → may_stop)
    → answer ≡ Some Stopped → may_stop
stopped_by failed fault answer answers may is = stopped fault answer (one_of_both failed fault answer answers) may is
