use Rattle.std.proofs.Common.{◌≡◌, length, refl, ap, ◌∙◌, arith}
use Rattle.std.proofs.lemmas.List.{length-map}
use Rattle.dr_plain.specs.declared.record.SenderRecord.{SenderRecord}
use Rattle.dr_plain.specs.Calls.Ends.{SenderPlace, receiver_place}
use Rattle.dr_plain.specs.Calls.InPlace.{SawSome, does_in_place}
use Rattle.dr_plain.specs.Calls.Making.{receiver_at_ring}
use Rattle.dr_plain.specs.Meaning.Moments.{fresh_receiver}
use Rattle.dr_disruptor.specs.Running.{new_receivers}
use Rattle.dr_disruptor.proofs.NewEnds.{new_at}
use Rattle.dr_disruptor.proofs.Ready.{is_told, saw_at_most, received_by}
use Rattle.dr_disruptor.proofs.Through.{shown_from_none}
use Rattle.dr_disruptor.proofs.laws.runs.what_a_run_says.Goals as goal

pub returns-clause-begins : goal.returns-clause-begins
returns-clause-begins g c send most shape events handlers ran is =
    let place_of : SenderRecord g.row.E.Denot → SenderPlace = λ r. (is.given.ring, r.plan) in (is.fresh, is.cells, is.sending, is.place ∙ ap place_of is.fresh)

pub returns-clause-serves : goal.returns-clause-serves
returns-clause-serves g c send most shape events handlers ran is =
    let k = shape is.strip in
    let settled = is.settled in
    let sender = ran.settled.sender.value.knows in
    let outlets = ran.settled.receivers.value.items in
    shown_from_none receiver_place received_by is_told SawSome does_in_place g.H.InPlaceHandler.goes most (new_receivers is.given.ring k) (g.T.Team.listed handlers) outlets
    (g.T.Team.listed ran.handlers) (λ h. receiver_at_ring is.given.ring (fresh_receiver k h))
    (new_at is.given.ring k) (λ h. refl)
    (λ h e at n saw.
    let most = saw_at_most sender outlets settled.lists h e at n saw in
    let all : length (received_by e).events ≡ length sender.published = length-map e.knows.received (λ l. l.event) ∙ ap length (settled.whole h e at).0 in omega arith)
    is.serving

pub returns-clause-goes : goal.returns-clause-goes
returns-clause-goes g c send most shape events handlers ran is = is.through
