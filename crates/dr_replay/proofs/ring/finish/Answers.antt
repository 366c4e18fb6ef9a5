use Rattle.std.proofs.Common.{◌≡◌, List, map, ap, ◌∙◌, sym, All, None, refl, arith}
use Rattle.dr_seq.specs.declared.event.Event.{Event}
use Rattle.dr_ring.specs.Calls.Ends.{ReceiverEnd}
use Rattle.dr_ring.specs.Meaning.Settling.{Settles}
use Rattle.dr_workers.specs.Meaning.FirstFault.{first_fault}
use Rattle.dr_workers.specs.declared.ended.Ended.{Ended}
use Rattle.dr_reports.specs.Keeping.{error_of}
use Rattle.dr_replay.specs.Calls.Workers.{AreThrough, Says, endings_of, ends_of}
use Rattle.dr_replay.proofs.Settled.{joined_parts}
use Rattle.dr_replay.proofs.ring.finish.Goals as goal

pub returns : goal.returns
returns c =
    let ran = c.args.ran in
    let parts = c.in-Ok-Ok-Ok in
    let settled : Settles ran.sender.knows (map (λ (e : ReceiverEnd). e.knows) (ends_of ran)) =
    rw c.in_ok-receivers.ensures at c.settle_all-settled.ensures.lists in
    let ended = c.as_slice.ensures ∙ c.endings-endings.ensures in
    let all : All (λ (e : Ended). e.fault ≡ None) (endings_of ran) = rw ended at c.in_default.ensures.none in
    let fine : ran.produced.fault ≡ None = all 3 (record { who = 0; fault = None }) (omega arith) in
    let through : (events : List Event) → Says events ran → AreThrough events ran = λ events says. record {
      sender = fine;
      journal = ((settled.each 0 ran.journal.receiver.knows refl).drained (rw parts.is-0 at says.journal).0 ∙ says.all fine, ap error_of parts.is-0);
      replica = ((settled.each 1 ran.replica.receiver.knows refl).drained (rw parts.is-1 at says.replica).0 ∙ says.all fine, ap error_of parts.is-1);
      business = ((settled.each 2 ran.business.receiver.knows refl).drained (rw parts.is-2 at says.business).0 ∙ says.all fine, ap error_of parts.is-2);
    } in
    record {
      text = λ events says.
          joined_parts events ran _ _ _ (through events says) (rw parts.is-0 at says.journal).1 (rw parts.is-1 at says.replica).1
          (rw parts.is-2 at says.business).1;
      received = through;
      fine = sym (c.in_default.ensures.first ∙ ap first_fault ended);
      first = tt;
      unhalted = tt;
      came = rw c.in_ok-receivers.ensures at c.settle_all-settled.ensures.run;
    }
