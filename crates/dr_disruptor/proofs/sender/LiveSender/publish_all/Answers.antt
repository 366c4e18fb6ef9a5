use Rattle.std.proofs.Common.{refl}
use Rattle.std.proofs.lemmas.Result.{IfErr-weaker, on_ok_weaker}
use Rattle.dr_disruptor.proofs.Scripts.{sends_list, stops_list}
use Rattle.dr_disruptor.proofs.sender.LiveSender.publish_all.Goals as goal

pub returns-clause-sent : goal.returns-clause-sent
returns-clause-sent g c =
    on_ok_weaker c.publish_each.result (sends_list c.args.events.now _ _ (λ k shown left met below. met below) _
    (g.I.InPlaceInlet.sending c.args.self.now).published (g.I.InPlaceInlet.sending c.publish_each.new.self).published refl) c.publish_each.ensures.sent

pub returns-clause-refused : goal.returns-clause-refused
returns-clause-refused g c =
    IfErr-weaker c.publish_each.result _ _ (λ r. stops_list c.args.events.now _ _ (λ k shown left met below. met below) g.I.InPlaceInlet.kept
    g.I.InPlaceInlet.sending g.I.InPlaceInlet.does _ c.args.cut r c.args.self.now c.publish_each.new.self refl) c.publish_each.ensures.refused

pub returns-clause-called : goal.returns-clause-called
returns-clause-called g c = c.publish_each.ensures.called
