use Rattle.std.proofs.Common.{ℕ, ◌<◌, subst}
use Rattle.dr_seq.proofs.Sizes.{size_positive}
use Rattle.dr_seq.specs.declared.event.Event.{Event}
use Rattle.dr_meaning.specs.Calls.Calling.{SomeCalls}
use Rattle.dr_ring.specs.Calls.Inlets.{sender_does}
use Rattle.dr_workers.specs.Calls.Serving.{Sends}
use Rattle.dr_replay.proofs.ring.sent.Goals as goal

pub returns-clause-place : goal.returns-clause-place
returns-clause-place g c = c.produce_with.ensures.kept

pub returns-clause-published : goal.returns-clause-published
returns-clause-published g c = c.produce_with.ensures.sent

pub returns-clause-open : goal.returns-clause-open
returns-clause-open g c = c.produce_with.ensures.open

pub returns-clause-stopped : goal.returns-clause-stopped
returns-clause-stopped g c = c.produce_with.ensures.stopped

pub returns-clause-calls : goal.returns-clause-calls
returns-clause-calls g c =
    let gate = c.args.gate.now in
    subst (λ (n : ℕ). SomeCalls sender_does c.args.sender.now c.produce_with.new.inlet
    (Sends {E = Event} n c.args.events.now (g.G.Gate.may_stop gate 16) (g.G.Gate.must_stop gate 16) c.produce_with.result)) c.get-cut.ensures.value
    c.produce_with.ensures.sends

pub returns-clause-some : goal.returns-clause-some
returns-clause-some g c = subst (λ (n : ℕ). 0 < n) c.get-cut.ensures.value (size_positive c.get-cut.result c.get-cut.ensures.size)

pub produce_with-requires : goal.produce_with-requires
produce_with-requires g c = record { cut = size_positive c.get-cut.result c.get-cut.ensures.size }

pub returns-clause-all : goal.returns-clause-all
returns-clause-all g c = λ none. rw none at c.produce_with.ensures.all
