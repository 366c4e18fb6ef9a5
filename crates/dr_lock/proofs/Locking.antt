-- Calls of the history that lies under a lock.
use Rattle.std.proofs.Common.{◌≡◌, ◌≤◌, ◌<◌, ◌+◌, ℕ, inl, inr, List, [], ◌∷◌, ◌++◌, length, take, get_or, None, Some, Ok, Err, refl, sym, ap, ◌∙◌, subst, arith}
use Rattle.std.specs.Prelude.{slice_get}
use Rattle.std.proofs.lemmas.Bool.{cases_lt}
use Rattle.std.proofs.lemmas.List.{length-take-le, take_all, take_more}
use Rattle.dr_meaning.specs.declared.command.Command.TheVariants.{Write}
use Rattle.dr_meaning.specs.declared.command.Reply.TheVariants.{Written}
use Rattle.dr_meaning.specs.declared.ends.Trouble.{Trouble}
use Rattle.dr_lock.specs.Meaning.History.{History, RecordedView}
use Rattle.dr_lock.specs.Calls.Lock.{IsAt, IsWritten}
use Rattle.dr_lock.specs.Inside.Locked.{AreCalls, AreWrites, IsCall, IsWrite}
use Rattle.dr_lock.proofs.Asking.{some_is}

each_more : {E : Type 0} (a b c : RecordedView E) (p lo s : ℕ) (xs : List E) (event : E) → s ≡ lo + length xs → AreCalls a p lo xs b
    → IsCall b (Write p s event) Written [] c → AreCalls a p lo (xs ++ event ∷ []) c
each_more {E} a b c p lo s [] event at all call = (
  c,
  subst (λ (x : RecordedView E). IsCall x (Write p lo event) Written [] c) all
      (subst (λ (n : ℕ). IsCall b (Write p n event) Written [] c) (let z : s ≡ lo = omega arith in z) call),
  refl,
)
each_more a b c p lo s (x ∷ xs) event at all call = (all.0, all.1, each_more all.0 b c p (lo + 1) s xs event (omega arith) all.2 call)

-- one event more is written
pub calls_more : {E : Type 0} (a b c : RecordedView E) (p lo k s : ℕ) (events : List E) (d event : E)
    → k < length events → s ≡ lo + k → get_or events k d ≡ event
    → AreCalls a p lo (take k events) b → IsCall b (Write p s event) Written [] c → AreCalls a p lo (take (k + 1) events) c
calls_more {E} a b c p lo k s events d event less at is all call =
    let many : length (take k events) ≡ k = length-take-le k events (omega arith) in
    let more : take k events ++ event ∷ [] ≡ take (k + 1) events = ap (λ (x : E). take k events ++ x ∷ []) (sym is) ∙ sym (take_more events k d less) in
    subst (λ (xs : List E). AreCalls a p lo xs c) more (each_more a b c p lo s (take k events) event (omega arith) all call)

-- the next event is not
pub stopped : {E : Type 0} (counted now : ℕ) (a b c : RecordedView E) (p lo k s : ℕ) (events : List E) (event : E) (trouble : Trouble)
    → now ≡ counted + k → s ≡ lo + k → IsAt events k event → AreCalls a p lo (take k events) b → IsWrite now b p s event c (Err trouble)
    → AreWrites counted a p lo events c (record { count = k; trouble = Some trouble })
stopped {E} counted now a b c p lo k s events event trouble counts at is all call = record {
  between = b;
  written = all;
  hindered = (
    event,
    is,
    subst (λ (n : ℕ). IsWrite n b p (lo + k) event c (Err trouble)) counts (subst (λ (n : ℕ). IsWrite now b p n event c (Err trouble)) at call),
  );
}

-- all are
pub all_done : {E : Type 0} (counted : ℕ) (a b : RecordedView E) (p lo k : ℕ) (events : List E) → length events ≤ k
    → AreCalls a p lo (take k events) b → AreWrites counted a p lo events b (record { count = length events; trouble = None })
all_done {E} counted a b p lo k events over all = record {
  between = b;
  written = subst (λ (xs : List E). AreCalls a p lo xs b) (take_all k events over ∙ sym (take_all (length events) events (omega arith))) all;
  hindered = (refl, refl);
}

-- what the machine answers to each
pub written_more : {E : Type 0} (b : History E) (p lo k : ℕ) (events : List E) (event : E) → IsAt events k event
    → ((j : ℕ) (other : E) → j < k → IsAt events j other → IsWritten b p (lo + j) other (Ok tt)) → IsWritten b p (lo + k) event (Ok tt)
    → (j : ℕ) (other : E) → j < k + 1 → IsAt events j other → IsWritten b p (lo + j) other (Ok tt)
written_more {E} b p lo k events event here before now j other less there = elim (cases_lt j k) [
  | inl l ↦ before j other l there
  | inr n ↦ let same : k ≡ j = omega arith in
      let is : event ≡ other = some_is event other (sym here ∙ ap (slice_get events) same ∙ there) in
      subst (λ (x : E). IsWritten b p (lo + j) x (Ok tt)) is (subst (λ (n : ℕ). IsWritten b p (lo + n) event (Ok tt)) same now)
]
