-- A worker whose handler was lent to it inside another one.
use Rattle.std.proofs.Common.{◌≡◌, ℕ, Bool, List, Option}
use Rattle.dr_meaning.specs.Calls.Calling.{OutletCall}
use Rattle.dr_meaning.specs.Calls.Ends.{Received}
use Rattle.dr_meaning.specs.Calls.Handling.{Relation}
use Rattle.dr_meaning.proofs.Showings.{GoesThrough-to, GoesThrough-within}
use Rattle.dr_workers.specs.declared.fault.WorkFault.{WorkFault}
use Rattle.dr_workers.specs.Calls.Serving.{Serves}
use Rattle.dr_workers.specs.Meaning.Work.{batches_in, shown_of}

-- what it did with the one, it did with the other
pub serves_lent : {E A B : Type 0} (room : ℕ) (goes : Relation E A) (inside : Relation E B) (kept : A → B)
    → ((a b : A) (event : E) (s : ℕ) (end : Bool) → goes a event s end b → inside (kept a) event s end (kept b))
    → (before after : A) (back : B) (old new : Option (Received E)) (may_stop must_stop : ℕ → Type 0) (answer : Option WorkFault) (calls : List (OutletCall E))
    → back ≡ kept after → Serves room goes before after old new may_stop must_stop answer calls
    → Serves room inside (kept before) back old new may_stop must_stop answer calls
serves_lent room goes inside kept each before after back old new may_stop must_stop answer calls same serves =
    let shown = shown_of (batches_in calls) in
    record {
      works = record {
        through = GoesThrough-to inside (kept before) shown (kept after) back
            (GoesThrough-within goes inside kept each before shown after serves.works.through) same;
        handed = serves.works.handed;
      };
      gate = serves.gate;
      completes = serves.completes;
      order = serves.order;
    }
