use Rattle.dr_meaning.specs.Calls.Filling.{FillsFrom}
use Rattle.dr_plain_senders.proofs.InPlaceSending.{changes, may_change}
use Rattle.dr_plain_senders.proofs.in_place.SenderInPlaceInlet.update_by.Goals as goal

pub unreachable-requires : goal.unreachable-requires
unreachable-requires g c =
    may_change (λ was now. FillsFrom g.F.FnMut c.args.fill.now c.args.number was c.update_by.new.fill now) c.args.self.now c.update_by.new.self c.args.s
    c.in-Err.field-0 c.in-Err.ensures.call c.requires.within c.ranges.s.fits

pub returns-clause-changes : goal.returns-clause-changes
returns-clause-changes g c =
    changes (λ was now. FillsFrom g.F.FnMut c.args.fill.now c.args.number was c.update_by.new.fill now) c.args.self.now c.update_by.new.self c.args.s
    c.in-Ok.ensures.call c.requires.within c.ranges.s.fits

pub returns-clause-called : goal.returns-clause-called
returns-clause-called g c = let call = c.in-Ok.ensures.call in (call.0, call.1, call.2, tt, call.4)
