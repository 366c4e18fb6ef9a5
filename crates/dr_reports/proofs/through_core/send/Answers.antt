use Rattle.std.proofs.Common.{◌≤◌, ◌<◌, ◌+◌, ◌-◌, ◌≡◌, [], arith, length, subst}
use Rattle.std.proofs.lemmas.List.{get_or_default}
use Rattle.dr_seq.specs.Event.{no_event}
use Rattle.dr_meaning.specs.declared.command.Command.TheVariants.{Publish}
use Rattle.dr_meaning.specs.declared.command.Reply.TheVariants.{Published}
use Rattle.dr_core.specs.Calls.Shows.{IsStep}
use Rattle.dr_meaning.specs.Calls.Replies.{unit_reply}
use Rattle.dr_core.proofs.Rounds.{claim_err, claim_ok, write_err, write_ok}
use Rattle.dr_reports.specs.Passing.{each, replay_graph}
use Rattle.dr_reports.proofs.Sending.{InHand, gated, publish_any}
use Rattle.dr_reports.proofs.through_core.send.Goals as goal
use Rattle.dr_reports.proofs.through_core.send.Goals.{After-write, In_ok-lo}

-- the claim gave the sequences from the place on
claimed : (c : In_ok-lo) → (c.in_ok-lo.field-0.lo ≡ c.args.at) × (c.in_ok-lo.field-0.hi ≡ c.args.at + c.args.n - 1)
    × InHand c.args.core.now.setup.size c.args.events.now (c.args.at + c.args.n) c.args.at c.args.at c.claim.new.self
claimed c =
    let r = c.requires in
    claim_ok c.args.core.now c.claim.new.self replay_graph c.args.core.now.setup.size c.args.events.now c.args.at c.args.n (each c.args.at) c.in_ok-lo.field-0.lo c.in_ok-lo.field-0.hi (gated c.args.events.now c.args.at) r.rests r.some r.fits r.limit c.in_ok-lo.ensures.step

-- the sequence that is written is claimed, and an event has its place
in_reach : (c : After-write) → (c.args.at ≤ c.loop-s.s) × (c.loop-s.s < c.args.at + c.args.n) × (c.loop-s.s < length c.args.events.now)
in_reach c =
    let within = c.requires.within in
    (omega arith, omega arith, omega arith)

pub returns-in_err-lo : goal.returns-in_err-lo
returns-in_err-lo c =
    let r = c.requires in
    absurd (claim_err c.args.core.now c.claim.new.self replay_graph c.args.core.now.setup.size c.args.events.now c.args.at c.args.n (each c.args.at) c.in_err-lo.field-0.0 (gated c.args.events.now c.args.at) r.rests r.some r.fits r.limit c.in_err-lo.ensures.step)

pub loop-s-init : goal.loop-s-init
loop-s-init c = (claimed (goal.at.loop-s-init c).In_ok-lo).2

pub returns-in_err-write : goal.returns-in_err-write
returns-in_err-write c =
    let (low, high, inside) = in_reach (goal.at.returns-in_err-write c).After-write in
    absurd (write_err c.loop-s.core c.write.new.self replay_graph c.args.core.now.setup.size c.args.events.now c.args.at c.args.n (each c.args.at) c.loop-s.s _ c.in_err-write.field-0.0 c.loop-s.invariant low high (get_or_default c.args.events.now c.loop-s.s _ no_event inside) c.in_err-write.ensures.step)

pub loop-s-preserved : goal.loop-s-preserved
loop-s-preserved c =
    let (low, high, inside) = in_reach (goal.at.loop-s-preserved c).After-write in
    write_ok c.loop-s.core c.write.new.self replay_graph c.args.core.now.setup.size c.args.events.now c.args.at c.args.n (each c.args.at) c.loop-s.s _ c.loop-s.invariant low high (get_or_default c.args.events.now c.loop-s.s _ no_event inside) c.in_ok-write.ensures.step

pub returns : goal.returns
returns c =
    let size = c.args.core.now.setup.size in
    let events = c.args.events.now in
    let at = c.args.at in
    let n = c.args.n in
    let (low, high, first) = claimed (goal.at.returns c).In_ok-lo in
    let all : c.loop-s.s ≡ at + n = omega arith in
    let hand = subst (λ w. InHand size events (at + n) w at c.loop-s.core) all c.loop-s.invariant in
    let step = subst (λ lo. IsStep c.loop-s.core (Publish 0 lo c.in_ok-lo.field-0.hi) (unit_reply Published c.publish.result) [] c.publish.new.self) low c.publish.ensures.step in
    publish_any c.loop-s.core c.publish.new.self size events at n c.publish.result c.in_ok-lo.field-0.hi high hand c.requires.some step
