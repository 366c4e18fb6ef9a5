use Rattle.dr_plain.proofs.in_place.SenderInPlaceInlet.update.Goals as goal

pub returns-clause-called : goal.returns-clause-called
returns-clause-called g c = let call = c.in-Ok.ensures in (call.0, call.1, call.2, tt, call.4)
