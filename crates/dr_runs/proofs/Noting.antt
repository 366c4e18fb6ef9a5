-- What is noted as written, and what a note leaves of that.
use Rattle.std.proofs.Common.{◌≡◌, ◌≢◌, ℕ, ◌+◌, ◌%◌, ◌<◌, ◌≤◌, inl, inr, true, false, length, set, sym, refl, ap, ◌∙◌, subst, arith, length-set}
use Rattle.std.specs.Prelude.{nat_lt, ◌||◌}
use Rattle.std.proofs.lemmas.Bool.{cases_lt, lt-ltb, le-ltb, or_left, or_right}
use Rattle.dr_seq.specs.Rounds.{entry_of, is_marked}
use Rattle.dr_seq.specs.Stamped.{stamped}
use Rattle.dr_seq.proofs.Stamped.{mark_is, marked-in, marked-out, marks_none_after}
use Rattle.dr_runs.specs.declared.written.Written.{Written}
use Rattle.dr_runs.specs.OneSender.Noted.{Notes, is_noted}

-- what a note leaves, of the sequences that may be open
pub record NotesOne (size next : ℕ) (w : Written) (s : ℕ) (w' : Written) : Type 0 where
  pub here : is_noted w' s ≡ true
  pub others : (k : ℕ) → k ≢ s → k < next → next ≤ k + size → is_noted w' k ≡ is_noted w k
  pub slots : length w'.ahead ≡ size
  pub upto : w'.upto ≤ next
  pub fresh : (k : ℕ) → next ≤ k → is_marked w'.ahead k ≡ false

-- the next in order
notes_next : (size next : ℕ) (w : Written) (s : ℕ) → length w.ahead ≡ size → s < next → ((k : ℕ) → next ≤ k → is_marked w.ahead k ≡ false)
    → s ≡ w.upto → NotesOne size next w s (record w { upto = s + 1 })
notes_next size next w s slots claimed fresh at = record {
  here = or_left _ _ (lt-ltb s (s + 1) (omega arith));
  others = λ k ne l round. ap (λ b. b || is_marked w.ahead k) (elim (cases_lt k w.upto) [
    | inl below ↦ lt-ltb k (s + 1) (omega arith) ∙ sym (lt-ltb k w.upto below)
    | inr above ↦ le-ltb k (s + 1) (omega arith) ∙ sym (le-ltb k w.upto above)
  ]);
  slots = slots;
  upto = omega arith;
  fresh = fresh;
}

-- one past it
notes_ahead : (size next : ℕ) (w : Written) (s : ℕ) → length w.ahead ≡ size → 0 < size → s < next → next ≤ s + size → w.upto ≤ next
    → ((k : ℕ) → next ≤ k → is_marked w.ahead k ≡ false)
    → NotesOne size next w s (record w { ahead = set w.ahead (s % length w.ahead) (entry_of (length w.ahead) s) })
notes_ahead size next w s slots some claimed near within fresh =
    let marked : set w.ahead (s % length w.ahead) (entry_of (length w.ahead) s) ≡ stamped (entry_of (length w.ahead)) w.ahead s 1 = mark_is w.ahead s in
    record {
      here = or_right (nat_lt s w.upto) _ (rw marked (marked-in w.ahead s 1 s (omega arith) (omega arith) (omega arith) (omega arith)));
      others = λ k ne l round. rw marked (ap (λ b. nat_lt k w.upto || b) (marked-out w.ahead s 1 k (omega arith) (omega arith) (λ j b e. ne (omega arith))));
      slots = length-set w.ahead _ _ ∙ slots;
      upto = within;
      fresh = λ k l. rw marked (marks_none_after w.ahead s 1 k (omega arith) (omega arith) (fresh k l));
    }

pub notes_one : (size next : ℕ) (w : Written) (s : ℕ) (w' : Written) → length w.ahead ≡ size → 0 < size → s < next → next ≤ s + size → w.upto ≤ next
    → ((k : ℕ) → next ≤ k → is_marked w.ahead k ≡ false) → Notes w s w' → NotesOne size next w s w'
notes_one size next w s w' slots some claimed near within fresh (inl is) =
    subst (NotesOne size next w s) (sym is.1) (notes_next size next w s slots claimed fresh is.0)
notes_one size next w s w' slots some claimed near within fresh (inr (inl is)) =
    subst (NotesOne size next w s) (sym is.1) (notes_ahead size next w s slots some claimed near within fresh)
notes_one size next w s w' slots some claimed near within fresh (inr (inr is)) =
    subst (NotesOne size next w s) (sym is.1) (record {
      here = or_left _ _ (lt-ltb s w.upto is.0);
      others = λ k ne l round. refl;
      slots = slots;
      upto = within;
      fresh = fresh;
    })
