use Rattle.std.proofs.Common.{rules, ◌≡◌, length, arith}
use Rattle.dr_disruptor_lock.proofs.Kept.{are_served}
use Rattle.dr_disruptor_lock.proofs.workers.served.Goals as goal

pub returns-in-Ok-sent-clause-served : goal.returns-in-Ok-sent-clause-served
returns-in-Ok-sent-clause-served g c =
    let workers = c.args.workers.items in
    let served = c.in-Ok.served.items in
    let many : length served ≡ length workers = search rules in
    are_served g.L.Exchange.begun g.H.InPlaceHandler.goes workers served many
    (λ h back below. let k = (c.in-Ok.ensures.each h back (omega arith)).1 in (k.handle, k.handle_is, k.kept))
