-- What a core and a state that it shows have in common.
use Rattle.std.proofs.Common.{◌≡◌, ℕ, ap}
use Rattle.dr_meaning.specs.Meaning.Machine.{State, next, front}
use Rattle.dr_core.specs.Calls.CoreView.{CoreView, retired_in}
use Rattle.dr_core.specs.Calls.Shows.{Shows}

module _ {E : Type 0} {v : (CoreView E)} {m : (State E)} (sh : Shows v m) where
  pub same_next : next m ≡ v.next
  same_next = ap (λ n. n.next) sh.counts

  pub same_front : front m ≡ v.front
  same_front = ap (λ n. n.front) sh.counts

  pub same_taken : m.taken ≡ v.taken
  same_taken = ap (λ n. n.taken) sh.counts

  pub same_completed : m.completed ≡ v.completed
  same_completed = ap (λ n. n.completed) sh.counts

  pub same_halted : m.halted ≡ v.halted
  same_halted = ap (λ f. f.halted) sh.flags

  pub same_retired : (h : ℕ) → m.retired h ≡ retired_in v h
  same_retired h = ap (λ f. f.retired h) sh.flags
