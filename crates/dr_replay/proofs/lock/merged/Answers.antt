use Rattle.std.proofs.Common.{◌≡◌, ◌∙◌, List, Vec, Global, map, ap, sym}
use Rattle.std.proofs.lemmas.List.{length-map}
use Rattle.dr_seq.specs.declared.event.Event.{Event}
use Rattle.dr_accounts.specs.Parts.{text_of}
use Rattle.dr_replay.specs.Meaning.Scripts.{scripts_in}
use Rattle.dr_replay.proofs.Coming.{of_replay}
use Rattle.dr_replay.proofs.Endings.{faults_more, opened_for, reports_more}
use Rattle.dr_replay.proofs.lock.merged.Goals as goal
use Rattle.dr_workers.specs.Calls.Stops.{MayStop}

-- the scripts that are settled are the producers' events
same : (all now : List (Vec Event Global)) (events : List Event) → now ≡ all → map (λ v. v.items) all ≡ scripts_in events
    → map (λ v. v.items) now ≡ scripts_in events
same all now events are is = ap (λ l. map (λ v. v.items) l) are ∙ is

pub returns-clause-text : goal.returns-clause-text
returns-clause-text g c =
    let events = c.args.events.items in
    reports_more (of_replay c.args.size c.len.result events c.in_ok-recorded.recorded.history _ _ c.as_slice.ensures.value c.in_ok-scripts.ensures
    c.in_ok-recorded.ensures.setup (c.len.ensures ∙ c.in_ok-scripts.scripts.ok.0) c.in_ok-recorded.ensures.fresh)
    events text_of c.report.result (c.report.ensures.text events (same _ _ events c.as_slice.ensures.value c.in_ok-scripts.ensures))

pub returns-clause-first : goal.returns-clause-first
returns-clause-first g c =
    let events = c.args.events.items in
    faults_more (of_replay c.args.size c.len.result events c.in_ok-recorded.recorded.history _ _ c.as_slice.ensures.value c.in_ok-scripts.ensures
    c.in_ok-recorded.ensures.setup (c.len.ensures ∙ c.in_ok-scripts.scripts.ok.0) c.in_ok-recorded.ensures.fresh)
    (MayStop g.G.Gate.may_stop c.args.gate.now) events c.report.result
    (c.report.ensures.first events (same _ _ events c.as_slice.ensures.value c.in_ok-scripts.ensures))

pub returns-clause-stops : goal.returns-clause-stops
returns-clause-stops g c =
    let events = c.args.events.items in
    c.report.ensures.stops events (same _ _ events c.as_slice.ensures.value c.in_ok-scripts.ensures)

pub returns-clause-ran : goal.returns-clause-ran
returns-clause-ran g c =
    let events = c.args.events.items in
    let all = c.in_ok-scripts.scripts.items in
    let whole = sym (length-map all (λ v. v.items)) in
    let opened = c.in_ok-recorded.ensures.setup
    ∙ opened_for c.args.size c.len.result events (map (λ v. v.items) all) (c.len.ensures ∙ c.in_ok-scripts.scripts.ok.0 ∙ whole) c.in_ok-scripts.ensures in
    c.report.ensures.ran events (same _ _ events c.as_slice.ensures.value c.in_ok-scripts.ensures) opened
