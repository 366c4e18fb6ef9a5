use Rattle.std.proofs.Common.{◌≡◌, ℕ, List, length, sym, subst, ap, ◌∙◌}
use mathlib.Core.Option.{some}
use lib.ListN.{get_elem?, length-map}
use Rattle.dr_meaning.specs.Meaning.Laws.{Laws}
use Rattle.dr_runs.specs.declared.counts.HandlerCounts.{HandlerCounts}
use Rattle.dr_runs.proofs.Lists.{map_there}
use Rattle.dr_plain.specs.declared.record.SenderRecord.{SenderRecord}
use Rattle.dr_plain.specs.declared.settled.Settled.{Settled}
use Rattle.dr_plain.specs.Calls.Ends.{ReceiverEnd, SenderEnd, SenderPlace}
use Rattle.dr_plain.specs.Calls.Settling.{handler_counts}
use Rattle.dr_lent.specs.Events.{events_of}
use Rattle.dr_plain.specs.Meaning.Shape.{Shape, ring_setup}
use Rattle.dr_disruptor.specs.Running.{AreSettled}
use Rattle.dr_disruptor.proofs.laws.runs.what_a_settled_run_says.Goals as goal
use Rattle.dr_disruptor.proofs.Unrefused.{not_halted}
use Rattle.dr_disruptor.proofs.Ready.{received_by}

-- each receiver took and completed all that was published, and so it is counted
completes_all : {E : Type 0} (back : SenderEnd E) (settled : Settled E) (values : List E) → AreSettled back settled values → (h : ℕ) (e : ReceiverEnd E)
    → get_elem? settled.receivers.value.items h ≡ some e
    → ((received_by e).events ≡ events_of back.knows.published) × (e.knows.completed ≡ settled.published)
    × (get_elem? settled.handlers.items h ≡ some (record { taken = settled.published; completed = settled.published }))
completes_all {E} back settled values is h e at =
    let (took, done) = is.whole h e at in
    let taken : length e.knows.received ≡ settled.published = ap length took ∙ sym is.published in
    let completed : e.knows.completed ≡ settled.published = done ∙ sym is.published in
    let both : handler_counts e.knows ≡ record { taken = settled.published; completed = settled.published } = λ i. record { taken = taken i; completed = completed i } in (
      ap events_of (took ∙ is.sent),
      completed,
      ap (λ (l : List HandlerCounts). get_elem? l h) is.counts ∙ map_there (λ (x : ReceiverEnd E). handler_counts x.knows) settled.receivers.value.items h e at
          ∙ ap some both,
    )

pub returns-clause-completes : goal.returns-clause-completes
returns-clause-completes g c send most shape events handlers ran is = completes_all is.back ran.settled ran.events is.settled

pub returns-clause-counts : goal.returns-clause-counts
returns-clause-counts g c send most shape events handlers ran is =
    let settled = is.settled in (
      settled.published ∙ ap length settled.sent,
      settled.claims,
      ap length settled.counts ∙ length-map ran.settled.receivers.value.items (λ e. handler_counts e.knows),
    )

pub returns-clause-unhalted : goal.returns-clause-unhalted
returns-clause-unhalted g c send most shape events handlers ran is = (is.settled.halter, is.settled.unhalted)

pub returns-clause-runs : goal.returns-clause-runs
returns-clause-runs g c send most shape events handlers ran is =
    let place = is.settled.closes.1.0.0 ∙ is.place in
    let plan = ap (λ (p : SenderPlace). p.1) place ∙ ap (λ (r : SenderRecord g.row.E.Denot). r.plan) is.fresh in
    (is.settled.run, subst (λ (k : Shape). Laws (ring_setup k) is.settled.run.entries) plan is.settled.run.laws)

pub returns-clause-events : goal.returns-clause-events
returns-clause-events g c send most shape events handlers ran is = is.settled.events

pub returns-clause-unrefused : goal.returns-clause-unrefused
returns-clause-unrefused g c send most shape events handlers ran is n r old new before refused after = not_halted is n r old new before refused after
