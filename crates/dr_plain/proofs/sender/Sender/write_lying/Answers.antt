use Rattle.std.proofs.Common.{◌≡◌, ℕ, ◌+◌, ap, ◌∙◌, arith}
use Rattle.std.specs.Prelude.{min, max}
use Rattle.dr_runs.specs.declared.written.Written.{Written}
use Rattle.dr_plain.specs.Calls.Ends.{SenderEnd}
use Rattle.dr_plain.specs.Calls.Sending.{with_lying}
use Rattle.dr_plain.proofs.LyingWrites.{wrote_lying, written_lying}
use Rattle.dr_plain.proofs.sender.Sender.write_lying.Goals as goal
use Rattle.dr_plain.proofs.sender.Sender.write_lying.Goals.{After-max-self-inside, then-hi-self, else-hi-self}

-- up to where the open sequences are noted
noted_to : (g : _) (c : After-max-self-inside g) → c.if-hi-self.upto ≡ min (c.args.hi + 1) c.self.inside.claimed
noted_to g c =
    elim c.if-hi-self.branch [
      | then-hi-self w ↦ (let below = w.if-hi-self in let is = w.upto-is in omega arith)
      | else-hi-self w ↦ (let beyond = w.if-hi-self in let is = w.upto-is in omega arith)
    ]

new : (g : _) (c : After-max-self-inside g) → (let w : Written = record c.self.inside.written { upto = c.max-self-inside.result } in w ≡ record c.self.inside.written { upto = max c.self.inside.written.upto c.if-hi-self.upto })
new g c = ap (λ (n : ℕ). let x : Written = record c.self.inside.written { upto = n } in x) c.max-self-inside.ensures

pub returns-clause-lying : goal.returns-clause-lying
returns-clause-lying g c =
    let a = (goal.at.returns-clause-lying g c).After-max-self-inside in
    wrote_lying _ c.if-hi-self.upto (c.args.hi + 1) c.self.invariant (new g a) (noted_to g a) ∙ ap (λ (E : SenderEnd g.row.T.Denot). with_lying E (c.args.hi + 1)) c.self.view_is

pub returns-clause-written : goal.returns-clause-written
returns-clause-written g c =
    let a = (goal.at.returns-clause-written g c).After-max-self-inside in written_lying _ c.if-hi-self.upto (c.args.hi + 1) c.self.invariant (new g a) (noted_to g a)
