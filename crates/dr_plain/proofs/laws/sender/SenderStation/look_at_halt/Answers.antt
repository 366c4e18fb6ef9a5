use Rattle.std.proofs.Common.{rules, sym, subst, ◌<◌}
use Rattle.dr_plain.specs.Meaning.Records.{SeesRoom}
use Rattle.dr_plain.specs.Calls.Ends.{SenderStand}
use Rattle.dr_plain.proofs.Allowed.{sender_looks_at_halt}
use Rattle.dr_plain.proofs.laws.sender.SenderStation.look_at_halt.Goals as goal

pub load-requires : goal.load-requires
load-requires g c =
    let room = subst (λ (e : SenderStand g.row.T.Denot). 0 < c.args.more → SeesRoom e.knows.plan e.knows c.args.more) (sym c.self.view_is) c.requires.room in
    (search rules, search rules, sender_looks_at_halt _ _ _ c.args.more _ c.requires.named c.self.invariant.end room)
