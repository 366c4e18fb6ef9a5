use Rattle.std.proofs.Common.{map}
use Rattle.std.specs.Global.{Vec}
use Rattle.dr_seq.specs.declared.event.Event.{Event}
use Rattle.dr_disruptor_lock.proofs.Merged.{went_whole}
use Rattle.dr_disruptor_lock.proofs.running.run_locked.Goals as goal

pub returns-in-Ok-clause-whole : goal.returns-in-Ok-clause-whole
returns-in-Ok-clause-whole g c =
    went_whole g.H.InPlaceHandler.goes c.in_ok-recorded.recorded.history c.args.size (map (λ (s : Vec Event). s.items) c.args.scripts.items) c.args.handlers.items
    c.in-Ok.ran c.in-Ok.ensures
