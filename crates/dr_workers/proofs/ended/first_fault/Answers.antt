use Rattle.std.proofs.Common.{◌∙◌, ap, Some}
use Rattle.std.specs.Option.{option_or}
use Rattle.dr_workers.specs.Meaning.FirstFault.{fault_of, is_memory, is_refused, is_stopped}
use Rattle.dr_workers.proofs.Faults.{first_is, goes_on, no_first, takes_in}
use Rattle.dr_workers.proofs.ended.first_fault.Goals as goal
use Rattle.dr_workers.proofs.ended.first_fault.Goals.{in-Some+in-Memory, in-Some+in-Stopped, in-Some+in-Refused, in_default}

pub loop-worker-preserved : goal.loop-worker-preserved
loop-worker-preserved c =
    let k = c.loop-worker.worker-index in
    let ended = c.args.ended.now in
    let less = c.loop-worker-test.true in
    let was = c.loop-worker.invariant in
    elim c.match-worker.branch [
      | in-Some+in-Memory w ↦
          let none = w.in-Some.is ∙ ap (λ f. Some f) w.in-Memory.is in (
            takes_in is_memory k ended _ _ _ _ _ less w.memory-is w.lesser_of.ensures was.0 w.in-Some.is (ap is_memory w.in-Memory.is),
            goes_on is_stopped k ended _ _ _ less w.stopped-is was.1 (ap (fault_of is_stopped _) none),
            goes_on is_refused k ended _ _ _ less w.refused-is was.2 (ap (fault_of is_refused _) none),
          )
      | in-Some+in-Stopped w ↦
          let none = w.in-Some.is ∙ ap (λ f. Some f) w.in-Stopped.is in (
            goes_on is_memory k ended _ _ _ less w.memory-is was.0 (ap (fault_of is_memory _) none),
            takes_in is_stopped k ended _ _ _ _ _ less w.stopped-is w.lesser_of-in-Stopped.ensures was.1 w.in-Some.is (ap is_stopped w.in-Stopped.is),
            goes_on is_refused k ended _ _ _ less w.refused-is was.2 (ap (fault_of is_refused _) none),
          )
      | in-Some+in-Refused w ↦
          let none = w.in-Some.is ∙ ap (λ f. Some f) w.in-Refused.is in (
            goes_on is_memory k ended _ _ _ less w.memory-is was.0 (ap (fault_of is_memory _) none),
            goes_on is_stopped k ended _ _ _ less w.stopped-is was.1 (ap (fault_of is_stopped _) none),
            takes_in is_refused k ended _ _ _ _ _ less w.refused-is w.lesser_of-in-Refused.ensures was.2 w.in-Some.is (ap is_refused w.in-Refused.is),
          )
      | in_default w ↦
          let none = w.in_default.is in (
            goes_on is_memory k ended _ _ _ less w.memory-is was.0 (ap (fault_of is_memory _) none),
            goes_on is_stopped k ended _ _ _ less w.stopped-is was.1 (ap (fault_of is_stopped _) none),
            goes_on is_refused k ended _ _ _ less w.refused-is was.2 (ap (fault_of is_refused _) none),
          )
    ]

pub returns-clause-first : goal.returns-clause-first
returns-clause-first c =
    let is = c.loop-worker.invariant in
    c.or-2.ensures ∙ ap (λ o. option_or o c.loop-worker.refused) c.or.ensures
    ∙ first_is c.loop-worker.worker-index c.args.ended.now _ _ _ c.loop-worker-test.false is.0 is.1 is.2

pub returns-clause-none : goal.returns-clause-none
returns-clause-none c = no_first _ c.args.ended.now (returns-clause-first c)
