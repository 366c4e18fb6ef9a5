-- Which end the receiver at a place of a new ring is.
use Rattle.std.proofs.Common.{◌≡◌, ℕ, ◌+◌, sym, ap, ◌∙◌, arith}
use mathlib.Core.Option.{some}
use lib.ListN.{get_elem?}
use Rattle.atomic_table.specs.Seated.{TableId}
use Rattle.dr_runs.proofs.Lists.{at_map}
use Rattle.dr_plain.specs.declared.record.ReceiverRecord.{ReceiverRecord}
use Rattle.dr_plain.specs.Calls.Ends.{ReceiverEnd}
use Rattle.dr_plain.specs.Calls.Making.{receiver_at_ring}
use Rattle.dr_plain.specs.Meaning.Moments.{fresh_receiver, fresh_receivers}
use Rattle.dr_plain.specs.Meaning.Shape.{Shape, handlers_of}
use Rattle.dr_plain.proofs.Beginning.{fresh_at}
use Rattle.dr_disruptor.specs.Running.{new_receivers}

pub new_at : {E : Type 0} (t : TableId) (k : Shape) (h : ℕ) (e : ReceiverEnd E) → get_elem? (new_receivers t k) h ≡ some e → e ≡ receiver_at_ring t (fresh_receiver k h)
new_at {E} t k h e at =
    let (r, at_r, same) = at_map (receiver_at_ring t) (fresh_receivers k 0 (handlers_of k)) h e at in
    let z : 0 + h ≡ h = omega arith in
    let new : ℕ → ReceiverEnd E = λ n. receiver_at_ring t (fresh_receiver k n) in
    sym same ∙ ap (λ (x : ReceiverRecord E). receiver_at_ring t x) (fresh_at k 0 (handlers_of k) h r at_r) ∙ ap new z
