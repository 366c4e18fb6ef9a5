use Rattle.std.proofs.Common.{rules}
use Rattle.dr_meaning.proofs.Showings.{GoesThrough-keeps}
use Rattle.dr_workers.specs.Meaning.Work.{batches_in, shown_of}
use Rattle.dr_workers.proofs.Lent.{serves_lent}
use Rattle.dr_workers.proofs.consumer.consume.Goals as goal

pub returns-clause-serves : goal.returns-clause-serves
returns-clause-serves g c =
    let serves = c.consume_with.ensures.serves in
    let after = c.consume_with.new.handler in
    let same = GoesThrough-keeps _ (λ by_value. by_value.handler.ghost_name) (λ a b event s end is. is.1) _ (shown_of (batches_in serves.calls)) after
    serves.holds.works.through in
    record {
      calls = serves.calls;
      lead = serves.lead;
      holds = serves_lent _ _ g.H.Handler.goes (λ by_value. by_value.handler.now) (λ a b event s end is. is.0) _ after _ _ _ _ _ _ serves.calls
          (search rules) serves.holds;
    }
