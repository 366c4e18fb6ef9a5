use Rattle.std.proofs.Common.{◌∙◌}
use Rattle.dr_replay.proofs.ring.served.Goals as goal

pub returns-clause-sending : goal.returns-clause-sending
returns-clause-sending g c =
    let sent = c.sent-produced in
    let close = rw c.into_end-sender.ensures at c.close.ensures in
    rw (← c.new-live.ensures) (record {
      place = close.place ∙ sent.ensures.place;
      published = close.published ∙ sent.ensures.published;
      all = sent.ensures.all;
      done = sent.new.sender;
      sends = record { some = sent.ensures.some; calls = sent.ensures.calls; stopped = sent.ensures.stopped };
      complete = sent.ensures.open;
      closes = close;
    })
