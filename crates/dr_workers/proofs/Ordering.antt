-- A producer's worker, call after call.
use Rattle.std.proofs.Common.{◌≡◌, ◌+◌, ◌≤◌, ℕ, zero, suc, List, [], ◌∷◌, ◌++◌, length, take, drop, replicate, Option, None, Some, refl, sym, ap, ◌∙◌}
use Rattle.std.proofs.Common.{subst, arith, add-zero}
use Rattle.dr_meaning.specs.declared.command.Claimed.{Claimed}
use Rattle.dr_meaning.specs.declared.ends.Trouble.{Trouble}
use Rattle.dr_meaning.specs.declared.ends.Trouble.TheVariants.{Memory, Refused}
use Rattle.dr_meaning.specs.Calls.Calling.{InletCall, each_written, first_in_trouble}
use Rattle.dr_workers.specs.Calls.Serving.{InOrder, IsNextStep, Task, ToSend, sent_on, task_after}
use Rattle.dr_workers.specs.Inside.Retries.{Retries, task_at_end}

pub in_order_more : {E : Type 0} (cut : ℕ) (task : Task E) (xs ys : List (InletCall E)) → InOrder cut task xs → InOrder cut (task_at_end task xs) ys
    → InOrder cut task (xs ++ ys)
in_order_more cut task [] ys h k = k
in_order_more cut task (x ∷ xs) ys h k = (h.0, in_order_more cut (task_after task x) xs ys h.1 k)

pub task_more : {E : Type 0} (task : Task E) (xs ys : List (InletCall E)) → task_at_end task (xs ++ ys) ≡ task_at_end (task_at_end task xs) ys
task_more task [] ys = refl
task_more task (x ∷ xs) ys = task_more (task_after task x) xs ys

-- A call that is made again until it is answered otherwise.

again_in_order : {E : Type 0} (cut : ℕ) (task : Task E) (waits answered : InletCall E) → task_after task waits ≡ task → IsNextStep cut task waits
    → IsNextStep cut task answered
    → (times : ℕ) → InOrder cut task (replicate times waits ++ answered ∷ [])
again_in_order cut task waits answered same next last zero = (last, tt)
again_in_order cut task waits answered same next last (suc times) =
    (next, subst (λ t. InOrder cut t (replicate times waits ++ answered ∷ [])) (sym same) (again_in_order cut task waits answered same next last times))

again_at_end : {E : Type 0} (task : Task E) (waits answered : InletCall E) → task_after task waits ≡ task → (times : ℕ)
    → task_at_end task (replicate times waits ++ answered ∷ []) ≡ task_after task answered
again_at_end task waits answered same zero = refl
again_at_end task waits answered same (suc times) =
    ap (λ t. task_at_end t (replicate times waits ++ answered ∷ [])) same ∙ again_at_end task waits answered same times

pub retried_in_order : {E : Type 0} (cut : ℕ) (task : Task E) (waits answered : InletCall E) (calls : List (InletCall E))
    → Retries waits answered calls → task_after task waits ≡ task
    → IsNextStep cut task waits → IsNextStep cut task answered → InOrder cut task calls
retried_in_order cut task waits answered calls h same next last = subst (InOrder cut task) (sym h.1) (again_in_order cut task waits answered same next last h.0)

pub retried_at_end : {E : Type 0} (task : Task E) (waits answered : InletCall E) (calls : List (InletCall E)) → Retries waits answered calls
    → task_after task waits ≡ task
    → task_at_end task calls ≡ task_after task answered
retried_at_end task waits answered calls h same = ap (task_at_end task) h.1 ∙ again_at_end task waits answered same h.0

-- Writes, one by one.

-- none of them is refused
abbrev pub WritesGoOn : Option Trouble → Type 0
WritesGoOn None = Unit {0}
WritesGoOn (Some Memory) = Unit {0}
WritesGoOn (Some (Refused refusal)) = ⊥

pub goes_on : {E : Type 0} (stretch : Claimed) (s : ℕ) (events rest : List E) (trouble : Option Trouble) → WritesGoOn trouble
    → sent_on stretch s events rest trouble ≡ ToSend stretch s events rest
goes_on stretch s events rest None fine = refl
goes_on stretch s events rest (Some Memory) fine = refl
goes_on stretch s events rest (Some (Refused refusal)) fine = absurd fine

next_place : (lo k : ℕ) → lo + 1 + k ≡ lo + suc k
next_place lo k = omega arith

pub each_in_order : {E : Type 0} (cut : ℕ) (stretch : Claimed) (rest : List E) (lo k : ℕ) (events : List E) (trouble : Option Trouble)
    → InOrder cut (ToSend stretch lo events rest) (each_written lo (take k events) ++ first_in_trouble (lo + k) trouble (drop k events))
each_in_order cut stretch rest lo zero events None = tt
each_in_order cut stretch rest lo zero [] (Some trouble) = tt
each_in_order cut stretch rest lo zero (event ∷ events) (Some trouble) = ((refl, add-zero lo), tt)
each_in_order cut stretch rest lo (suc k) [] None = tt
each_in_order cut stretch rest lo (suc k) [] (Some trouble) = tt
each_in_order cut stretch rest lo (suc k) (event ∷ events) trouble = (
  (refl, refl),
  subst (λ n. InOrder cut (ToSend stretch (lo + 1) events rest) (each_written (lo + 1) (take k events) ++ first_in_trouble n trouble (drop k events)))
      (next_place lo k)
      (each_in_order cut stretch rest (lo + 1) k events trouble),
)

pub each_at_end : {E : Type 0} (stretch : Claimed) (rest : List E) (lo k : ℕ) (events : List E) (trouble : Option Trouble) → WritesGoOn trouble
    → k ≤ length events
    → task_at_end (ToSend stretch lo events rest) (each_written lo (take k events) ++ first_in_trouble (lo + k) trouble (drop k events))
    ≡ ToSend stretch (lo + k) (drop k events) rest
each_at_end stretch rest lo zero events None fine within = ap (λ n. ToSend stretch n events rest) (sym (add-zero lo))
each_at_end stretch rest lo zero [] (Some trouble) fine within = ap (λ n. ToSend stretch n [] rest) (sym (add-zero lo))
each_at_end stretch rest lo zero (event ∷ events) (Some Memory) fine within = ap (λ n. ToSend stretch n (event ∷ events) rest) (sym (add-zero lo))
each_at_end stretch rest lo zero (event ∷ events) (Some (Refused refusal)) fine within = absurd fine
each_at_end stretch rest lo (suc k) [] trouble fine within = absurd (omega arith)
each_at_end stretch rest lo (suc k) (event ∷ events) trouble fine within =
    subst (λ n. task_at_end (ToSend stretch (lo + 1) events rest) (each_written (lo + 1) (take k events) ++ first_in_trouble n trouble (drop k events))
    ≡ ToSend stretch n (drop k events) rest) (next_place lo k)
    (each_at_end stretch rest (lo + 1) k events trouble fine (omega arith))
