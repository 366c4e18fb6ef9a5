-- One producer publishes the next stretch, which it wrote in order: nothing refuses it, and no mark is left.
use Rattle.std.proofs.Common.{◌≡◌, ℕ, ◌+◌, ◌-◌, ◌<◌, ◌≤◌, [], true, false, not, arith, refl, ap, max, None}
use Rattle.std.proofs.lemmas.Bool.{and_right, eq-eqb, lt-ltb, le-ltb, or_left, or_from}
use Rattle.dr_seq.proofs.Sizes.{size_positive}
use Rattle.dr_meaning.specs.declared.command.Command.TheVariants.{Publish}
use Rattle.dr_meaning.specs.declared.command.Reply.TheVariants.{Published}
use Rattle.dr_core.specs.declared.engine.Core.TheInside.{Inside}
use Rattle.dr_meaning.specs.Meaning.Machine.{producers, is_single}
use Rattle.dr_core.specs.Calls.CoreView.{CoreView, known_at}
use Rattle.dr_core.specs.Calls.Shows.{IsStep}
use Rattle.dr_core.specs.Inside.Availability.{published_after, IsNewFront, publish_fault}
use Rattle.dr_core.specs.Inside.Fields.{view_of, kept_of, IsKept, IsAvailable}
use Rattle.dr_core.proofs.Publishing.{publish_step}
use Rattle.dr_core.proofs.Recents.{known_there, publishes_known, publishes_available, front_known, publish_fault_is}
use Rattle.dr_core.proofs.Recents.{single_ahead, single_owns, single_marks, single_front}
use Rattle.dr_core.proofs.Writing.{near}

-- the next stretch of one producer, written in order
pub record InOrder {E : Type 0} (a : Inside E) (lo hi : ℕ) : Type 0 where
  pub single : is_single a.mode ≡ true
  pub begins : lo ≡ a.front
  pub order : lo ≤ hi
  pub written : hi < a.filled

module _ {E : Type 0} (a : Inside E) (kept : IsKept a) (p lo hi : ℕ) (producer : p < producers a.mode) (is : InOrder a lo hi) where
  pub claimed : hi < a.next
  claimed = (let upto : a.filled ≤ a.next = kept.available.filled in let written : hi < a.filled = is.written in omega arith)

  recent : a.next ≤ lo + a.size
  recent = near (view_of a) kept.whole lo (let b : lo ≡ a.front = is.begins in omega arith)

  some : 0 < a.size
  some = size_positive a.size kept.whole.size

  -- all of it is written and unpublished
  none : (j : ℕ) → j < hi + 1 - lo → publish_fault (known_at (view_of a) (lo + j)) p ≡ None
  none j l =
      let begins : lo ≡ a.front = is.begins in
      let written : hi < a.filled = is.written in
      let inside : hi < a.next = claimed in
      let near : a.next ≤ lo + a.size = recent in
      publish_fault_is a (lo + j) p false true true (omega arith) (omega arith)
      (or_from _ _ (le-ltb (lo + j) a.front (omega arith)) (single_ahead a.mode a.published (lo + j) is.single))
      (single_owns a.mode a.owners.items (lo + j) p is.single producer)
      (or_left _ _ (lt-ltb (lo + j) a.filled (omega arith)))

  new_front : IsNewFront a.mode (published_after a.mode a.published lo (hi + 1 - lo)) a.front a.next hi (hi + 1)
  new_front = single_front a.mode (published_after a.mode a.published lo (hi + 1 - lo)) a.front a.next hi is.single

  -- no mark is left, and the count of those written in order is past the front
  marks : published_after a.mode a.published lo (hi + 1 - lo) ≡ a.published
  marks = single_marks a.mode a.published lo (hi + 1 - lo) is.single

  filled : max a.filled (hi + 1) ≡ a.filled
  filled = (let written : hi < a.filled = is.written in omega arith)

  pub next_step : IsStep (view_of a) (Publish p lo hi) Published [] (view_of (record a { front = hi + 1 }))
  next_step =
      let v : CoreView E = view_of a in
      let low : v.front ≤ lo = (let b : lo ≡ a.front = is.begins in omega arith) in
      rw (marks, filled) at
      (publish_step v p lo hi (hi + 1) _
      (publishes_known v (kept_of a) (known_there a) kept.available kept.whole.front some p lo hi (hi + 1) is.order claimed recent (near v kept.whole v.front (omega arith)) refl low (λ s. is.begins) new_front none)
      kept.whole producer is.order claimed low none
      (front_known v (kept_of a) (known_there a) kept.available kept.whole.front some p lo hi (hi + 1) is.order claimed recent (near v kept.whole v.front (omega arith)) refl low (λ s. is.begins) new_front)
      (and_right _ _ (ap not (eq-eqb _ _ is.begins))))

  pub next_available : IsAvailable (kept_of (record a { front = hi + 1 })) a.size a.next
  next_available =
      let v : CoreView E = view_of a in
      let low : v.front ≤ lo = (let b : lo ≡ a.front = is.begins in omega arith) in
      rw (marks, filled) at
      (publishes_available v (kept_of a) (known_there a) kept.available kept.whole.front some p lo hi (hi + 1) is.order claimed recent (near v kept.whole v.front (omega arith)) refl low (λ s. is.begins) new_front)
