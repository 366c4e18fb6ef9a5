use Rattle.dr_plain.proofs.in_place.SenderInPlaceInlet.update_by.Goals as goal

pub returns-clause-called : goal.returns-clause-called
returns-clause-called g c = let call = c.in-Ok.ensures.call in (call.0, call.1, call.2, tt, call.4)
