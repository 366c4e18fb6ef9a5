use Rattle.std.proofs.Common.{◌++◌, ◌∙◌, refl}
use Rattle.std.proofs.lemmas.Result.{err_from_is_err_and}
use Rattle.dr_files.specs.Counting.{inner_of}
use Rattle.dr_ledger.proofs.Turns.{begun, turns_bad, turns_on, turns_out, turns_stop}
use Rattle.dr_ledger.proofs.ledger.Ledger.answer_all.Goals as goal

pub loop-init : goal.loop-init
loop-init g c =
    let d = g.D.Device in
    record {
      at_rest = c.requires.at_rest;
      reads = refl;
      writes = refl;
      disks = refl;
      so_far = λ past work. begun d.seen d.may_leave d.moment d.left_since g.met.D.Device.only_now c.args.self.now (g.W.Write.contents (inner_of c.args.output.now)) (g.R.Read.remaining (inner_of c.args.input.now)) c.args.stream.now past work;
    }

pub returns-in_err-turn-clause-answers : goal.returns-in_err-turn-clause-answers
returns-in_err-turn-clause-answers g c = λ past work.
    let d = g.D.Device in
    let con = g.W.Write.contents in
    let rem = g.R.Read.remaining in
    let first = c.loop.invariant.so_far past work in
    let later = c.in_err-turn.ensures.turns (past ++ first.came) first.leaves.0 in
    let p = err_from_is_err_and c.from_residual.result c.from_residual.ensures.1 in
    rw (p.1, p.2) (turns_bad d.seen d.may_leave d.moment d.left_since c.args.self.now c.loop.self c.turn.new.self (con (inner_of c.args.output.now)) (con (inner_of c.loop.output)) (con (inner_of c.turn.new.output))
    c.args.stream.now c.loop.stream c.turn.new.stream (rem (inner_of c.args.input.now)) (rem (inner_of c.loop.input)) (rem (inner_of c.turn.new.input)) past first c.in_err-turn.field-0.0 later)

pub returns-then-not-branch-clause-answers : goal.returns-then-not-branch-clause-answers
returns-then-not-branch-clause-answers g c = λ past work.
    let d = g.D.Device in
    let con = g.W.Write.contents in
    let rem = g.R.Read.remaining in
    let first = c.loop.invariant.so_far past work in
    let later = rw c.if-not-branch.true at (c.in_ok-turn.ensures.turns (past ++ first.came) first.leaves.0) in
    turns_out d.seen d.may_leave d.moment d.left_since c.args.self.now c.loop.self c.turn.new.self (con (inner_of c.args.output.now)) (con (inner_of c.loop.output)) (con (inner_of c.turn.new.output))
    c.args.stream.now c.loop.stream c.turn.new.stream (rem (inner_of c.args.input.now)) (rem (inner_of c.loop.input)) (rem (inner_of c.turn.new.input)) past first later

pub loop-preserved : goal.loop-preserved
loop-preserved g c =
    let d = g.D.Device in
    let con = g.W.Write.contents in
    let rem = g.R.Read.remaining in
    let inv = c.loop.invariant in
    record {
      at_rest = c.in_ok-turn.ensures.at_rest;
      reads = c.in_ok-turn.ensures.counted.0 ∙ inv.reads;
      writes = c.in_ok-turn.ensures.counted.1 ∙ inv.writes;
      disks = c.in_ok-turn.ensures.reliable ∙ inv.disks;
      so_far = λ past work.
          let first = inv.so_far past work in
          let later = rw c.if-not-branch.false at (c.in_ok-turn.ensures.turns (past ++ first.came) first.leaves.0) in
          turns_on d.seen d.may_leave d.moment d.left_since c.args.self.now c.loop.self c.turn.new.self (con (inner_of c.args.output.now)) (con (inner_of c.loop.output)) (con (inner_of c.turn.new.output))
          c.args.stream.now c.loop.stream c.turn.new.stream (rem (inner_of c.args.input.now)) (rem (inner_of c.loop.input)) (rem (inner_of c.turn.new.input)) past first later;
    }

pub returns-clause-answers : goal.returns-clause-answers
returns-clause-answers g c = λ past work.
    let d = g.D.Device in
    let con = g.W.Write.contents in
    let rem = g.R.Read.remaining in
    let first = c.loop.invariant.so_far past work in
    turns_stop d.seen d.may_leave d.moment d.left_since c.args.self.now c.loop.self c.loop.self (con (inner_of c.args.output.now)) (con (inner_of c.loop.output)) (con (inner_of c.loop.output))
    c.args.stream.now c.loop.stream c.loop.stream (rem (inner_of c.args.input.now)) (rem (inner_of c.loop.input)) (rem (inner_of c.loop.input)) past first
