use Rattle.std.proofs.Common.{◌∙◌, ap, length, map, subst, sym}
use Rattle.std.proofs.lemmas.List.{length-map}
use Rattle.dr_seq.specs.declared.event.Event.{Event}
use Rattle.dr_lock.specs.Meaning.History.{History}
use Rattle.dr_reports.specs.Keeping.{error_of}
use Rattle.dr_accounts.specs.Parts.{text_of}
use Rattle.dr_replay.specs.Meaning.Exchange.{CameTo}
use Rattle.dr_replay.proofs.Coming.{came}
use Rattle.dr_replay.proofs.Endings.{ends_of_merge, reports_more}
use Rattle.dr_replay.proofs.LockRuns.{came_of_lock, history_of, joined_over}
use Rattle.dr_replay.proofs.Heeding.{joined_heeds, where_ok}
use Rattle.dr_replay.proofs.Stopping.{joined_stopped}
use Rattle.dr_replay.proofs.lock.report.Goals as goal
use Rattle.dr_workers.specs.Calls.Stops.{MayStop}

pub returns-in-Ok-clause-text : goal.returns-in-Ok-clause-text
returns-in-Ok-clause-text g c = λ sent are.
    let had = c.in_ok-ends.ensures.begun ∙ c.new-shared.ensures.begun ∙ ap (λ (h : History Event). length h.entries) c.requires.begun in
    reports_more (λ h went. subst (λ b. CameTo b (length c.args.scripts.now) h) (sym c.requires.begun)
    (came _ _ _ _ c.args.scripts.now c.in-Ok.ran c.in-Ok.ensures _ had h went))
    sent text_of c.settled.result (c.settled.ensures.text sent are)

pub returns-in-Ok-clause-first : goal.returns-in-Ok-clause-first
returns-in-Ok-clause-first g c = λ sent are.
    let ran = c.in-Ok.ran in
    let had = c.in_ok-ends.ensures.begun ∙ c.new-shared.ensures.begun ∙ ap (λ (h : History Event). length h.entries) c.requires.begun in
    ends_of_merge (λ h went. subst (λ b. CameTo b (length c.args.scripts.now) h) (sym c.requires.begun)
    (came _ _ _ _ c.args.scripts.now ran c.in-Ok.ensures _ had h went))
    (MayStop g.G.Gate.may_stop c.args.gate.now) sent _ (error_of ran.journal.part) (error_of ran.replica.part) (error_of ran.business.part)
    (map (λ s. s.fault) ran.producers.items) c.settled.result are
    (length-map ran.producers.items (λ s. s.fault) ∙ c.in-Ok.ensures.producers.many ∙ sym (length-map c.args.scripts.now (λ v. v.items)))
    (joined_stopped _ (g.G.Gate.may_stop c.args.gate.now) _ _ _ ran c.in-Ok.ensures) c.settled.ensures.first

pub returns-in-Ok-clause-stops : goal.returns-in-Ok-clause-stops
returns-in-Ok-clause-stops g c = λ sent are.
    where_ok c.settled.result
    (λ fine. joined_heeds _ _ (g.G.Gate.must_stop c.args.gate.now) _ c.args.scripts.now c.in-Ok.ran sent c.in-Ok.ensures fine are)
    c.settled.ensures.producers

pub returns-in-Ok-clause-ran : goal.returns-in-Ok-clause-ran
returns-in-Ok-clause-ran g c = λ sent are setup.
    let ran = c.in-Ok.ran in
    let may = g.G.Gate.may_stop c.args.gate.now in
    let must = g.G.Gate.must_stop c.args.gate.now in
    let begun = g.L.Exchange.begun in
    let is = c.in-Ok.ensures in
    let had = c.in_ok-ends.ensures.begun ∙ c.new-shared.ensures.begun ∙ ap (λ (h : History Event). length h.entries) c.requires.begun in
    let opened = sym (ap (λ (h : History Event). h.core.setup) c.requires.begun) ∙ setup in
    let fresh = sym (ap (λ (h : History Event). h.entries) c.requires.begun) ∙ c.requires.fresh in
    came_of_lock text_of (joined_over begun may must c.args.size c.args.scripts.now ran sent is are opened fresh) c.settled.result
    (map (λ v. v.items) c.args.scripts.now) are
    (history_of begun may must c.args.size c.args.scripts.now ran sent is are opened fresh _ had) c.settled.ensures.fine
    (c.settled.ensures.text sent are) c.settled.ensures.first
