-- Producers' workers that were started one after another, each with its promise.
use Rattle.std.proofs.Common.{◌≡◌, ◌+◌, ◌<◌, ℕ, zero, suc, List, [], ◌∷◌, ◌++◌, Option, Vec, All, length, get_or, ap, sym, subst, refl, ◌∙◌, below_more, arith}
use Rattle.std.proofs.lemmas.List.{get_or_append_left, get_or_push, length_push}
use Rattle.std.proofs.lemmas.List.Elements.{All-tail}
use Rattle.dr_seq.specs.declared.event.Event.{Event}
use Rattle.dr_lock.specs.Calls.Lock.{EndView, no_calls}
use Rattle.dr_lock.specs.Meaning.History.{History}
use Rattle.dr_workers.specs.declared.fault.WorkFault.{WorkFault}
use Rattle.dr_replay.specs.Calls.LockWorkers.{HasSent}
use Rattle.dr_replay.specs.declared.given_back.SentBy.{SentBy}

-- one more is started, and one fewer is left
pub counts_more : {X Y : Type 0} (old new : List X) (x : X) (rest left : List Y) (y : Y) (n : ℕ) → length old + length rest ≡ n → new ≡ old ++ x ∷ []
    → rest ≡ y ∷ left → length new + length left ≡ n
counts_more old new x rest left y n before pushed taken =
    let long : length new ≡ length old + 1 = ap length pushed ∙ length_push old x in
    let short : length rest ≡ length (y ∷ left) = ap length taken in
    omega arith

pub promised_more : {X : Type 0} (P : X → ℕ → Type 0) (old new : List X) (x : X) → new ≡ old ++ x ∷ []
    → ((k : ℕ) (d : X) → k < length old → P (get_or old k d) k) → P x (length old) → (k : ℕ) (d : X) → k < length new → P (get_or new k d) k
promised_more P old new x pushed before last k d below =
    let long : length new ≡ length old + 1 = ap length pushed ∙ length_push old x in
    below_more (λ i. P (get_or new i d) i) (length old)
    (λ i low. subst (λ y. P y i) (sym (ap (λ l. get_or l i d) pushed ∙ get_or_append_left old (x ∷ []) d i low)) (before i d low))
    (subst (λ y. P y (length old)) (sym (ap (λ l. get_or l (length old) d) pushed ∙ get_or_push old x d (length old) refl)) last)
    k (omega arith)

-- nobody has called through those that are left
pub rest_unused : (ends left : List (EndView Event)) (end : EndView Event) → ends ≡ end ∷ left → All (λ (e : EndView Event). e ≡ no_calls) ends
    → All (λ (e : EndView Event). e ≡ no_calls) left
rest_unused ends left end taken unused =
    let IsUnused : EndView Event → Type 0 = λ e. e ≡ no_calls in
    All-tail IsUnused end left (subst (All IsUnused) taken unused)

-- what stands at a place, whatever is asked for beyond the list
pub same_at : {X : Type 0} (xs : List X) (k : ℕ) (d e : X) → k < length xs → get_or xs k d ≡ get_or xs k e
same_at [] k d e below = absurd (omega arith)
same_at (x ∷ xs) zero d e below = refl
same_at (x ∷ xs) (suc k) d e below = same_at xs k d e (omega arith)

-- the promise of the worker that sends the script at a place
pub record IsPromised {G Z : Type 0} (given : G) (each : ℕ) (scripts : List (Vec Event Z)) (promise : SentBy G) (p : ℕ) : Type 0 where
  pub gate : promise.gate.value ≡ given
  pub number : promise.p ≡ p
  pub events : (script : Vec Event Z) → promise.script.now ≡ (get_or scripts p script).items
  pub cut : promise.cut ≡ each

-- who keeps it has sent that script
module _ {G Z : Type 0} (begun : History Event) (may_stop must_stop : G → ℕ → ℕ → Type 0) where
  pub sent_by : (given : G) (each : ℕ) (scripts : List (Vec Event Z)) (promise : SentBy G) (p : ℕ) (script : Vec Event Z) (back : EndView Event)
      (fault : Option WorkFault) → IsPromised given each scripts promise p
      → HasSent begun promise.p promise.cut promise.script.now (may_stop promise.gate.value (16 + promise.p))
      (must_stop promise.gate.value (16 + promise.p)) back fault
      → HasSent begun p each (get_or scripts p script).items (may_stop given (16 + p)) (must_stop given (16 + p)) back fault
  sent_by given each scripts promise p script back fault is kept =
      subst (λ c. HasSent begun p c (get_or scripts p script).items (may_stop given (16 + p)) (must_stop given (16 + p)) back fault) is.cut
      (subst (λ l. HasSent begun p promise.cut l (may_stop given (16 + p)) (must_stop given (16 + p)) back fault) (is.events script)
      (subst (λ n. HasSent begun n promise.cut promise.script.now (may_stop given (16 + n)) (must_stop given (16 + n)) back fault) is.number
      (subst (λ x. HasSent begun promise.p promise.cut promise.script.now (may_stop x (16 + promise.p))
      (must_stop x (16 + promise.p)) back fault) is.gate kept)))
