use Rattle.std.specs.Fn.{FnOnceReturnsAtMut}
use Rattle.dr_plain_senders.proofs.InPlaceSending.{changes, may_change}
use Rattle.dr_plain_senders.proofs.in_place.SenderInPlaceInlet.update.Goals as goal

pub unreachable-requires : goal.unreachable-requires
unreachable-requires g c =
    may_change (λ was now. FnOnceReturnsAtMut g.F.FnOnce c.args.change was tt now) c.args.self.now c.update.new.self c.args.s c.in-Err.field-0 c.in-Err.ensures
    c.requires.within c.ranges.s.fits

pub returns-clause-changes : goal.returns-clause-changes
returns-clause-changes g c =
    changes (λ was now. FnOnceReturnsAtMut g.F.FnOnce c.args.change was tt now) c.args.self.now c.update.new.self c.args.s c.in-Ok.ensures
    c.requires.within c.ranges.s.fits

pub returns-clause-called : goal.returns-clause-called
returns-clause-called g c = let call = c.in-Ok.ensures in (call.0, call.1, call.2, tt, call.4)
