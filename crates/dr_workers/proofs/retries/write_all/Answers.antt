use Rattle.std.proofs.Common.{ap, subst, sym, ◌≡◌, ◌<◌, ◌≤◌, ◌+◌, ◌-◌, ◌∙◌, ℕ, List, Option, None, Some, arith, drop, length, rules, take}
use Rattle.dr_meaning.specs.declared.ends.Trouble.{Trouble}
use Rattle.dr_meaning.specs.declared.ends.Trouble.TheVariants.{Memory, Refused}
use Rattle.dr_meaning.specs.declared.ends.Wrote.{Wrote}
use Rattle.dr_meaning.specs.Calls.Calling.{InletCall, SomeCalls, WritesBy}
use Rattle.dr_meaning.specs.Calls.Ends.{Sent, StopsAt}
use Rattle.dr_workers.proofs.Calling.{AreTried, all_accepted, first_more, last_refused, many_writes}
use Rattle.dr_workers.proofs.Closing.{trouble_of, write_refused}
use Rattle.dr_workers.proofs.Ordering.{WritesGoOn}
use Rattle.dr_workers.proofs.Writings.{all_written, length-rest, more_written, only_written, stops_before, stops_nowhere, stops_within}
use Rattle.dr_workers.proofs.retries.write_all.Goals as goal

goes_on_with_none : (trouble : Option Trouble) → trouble ≡ None → WritesGoOn trouble
goes_on_with_none trouble is = subst WritesGoOn (sym is) tt

goes_on_at : (trouble : Option Trouble) → trouble ≡ Some Memory → WritesGoOn trouble
goes_on_at trouble is = subst WritesGoOn (sym is) tt

-- a call that writes the events after the first ones
tried : {S E : Type 0} (does : S → InletCall E → S → Type 0) (a b : S) (shown : Option (Sent E)) (lo done : ℕ) (events : List E) (wrote : Wrote)
    → StopsAt shown (lo + done) (length (take (length events - done) (drop done events))) wrote.count wrote.trouble
    → WritesBy a b does (lo + done) (take (length events - done) (drop done events)) wrote
    → SomeCalls does a b (AreTried (lo + done) (take (length events - done) (drop done events)) wrote)
tried does a b shown lo done events wrote stops called =
    let left = take (length events - done) (drop done events) in
    many_writes does (lo + done) left wrote a b (λ r is. stops_before shown (lo + done) (length left) wrote.count wrote.trouble (Refused r) is stops)
    (stops_within shown (lo + done) (length left) wrote.count wrote.trouble stops) called

pub loop-preserved : goal.loop-preserved
loop-preserved g c =
    let done = c.loop.done in
    let events = c.args.events.now in
    let left : length (take (length events - done) (drop done events)) ≡ length events - done = length-rest events done in
    let some : c.write_all-wrote.result.count ≤ length (take (length events - done) (drop done events))
    = stops_within _ _ _ _ _ c.write_all-wrote.ensures.answer.stops in
    let is : c.write_all-wrote.result.trouble ≡ Some Memory
    = c.in-Some-Memory.is ∙ ap (λ t. Some t) (rw c.in-Some-Memory.is at c.in-Some-Memory.field-0-is) in
    let front = c.loop.invariant.3 in (
      tt,
      tt,
      c.write_all-wrote.ensures.kept ∙ c.loop.invariant.2,
      omega arith,
      more_written c.args.lo done c.write_all-wrote.result.count events front _ _ _ c.loop.invariant.4 c.write_all-wrote.ensures.sent,
      first_more g.I.Inlet.does _ _ _ c.args.lo done events c.write_all-wrote.result front c.loop.invariant.6
          (goes_on_at c.write_all-wrote.result.trouble is) c.loop.invariant.5
          (tried g.I.Inlet.does _ _ _ c.args.lo done events c.write_all-wrote.result c.write_all-wrote.ensures.answer.stops c.write_all-wrote.ensures.called),
      λ some.
          let fewer : c.write_all-wrote.result.count < length (take (length events - done) (drop done events))
          = stops_before _ _ _ _ _ Memory is c.write_all-wrote.ensures.answer.stops in omega arith,
    )

pub returns-in-None-trouble-clause-written : goal.returns-in-None-trouble-clause-written
returns-in-None-trouble-clause-written g c =
    let done = c.loop.done in
    let events = c.args.events.now in
    let left : length (take (length events - done) (drop done events)) ≡ length events - done = length-rest events done in
    let all : c.write_all-wrote.result.count ≡ length (take (length events - done) (drop done events))
    = stops_nowhere _ _ _ _ _ c.in-None-trouble.is c.write_all-wrote.ensures.answer.stops in
    let front = c.loop.invariant.3 in
    all_written c.args.lo done c.write_all-wrote.result.count events (omega arith) _ _
    (more_written c.args.lo done c.write_all-wrote.result.count events front _ _ _ c.loop.invariant.4 c.write_all-wrote.ensures.sent)

pub returns-in-Some-trouble-clause-fault : goal.returns-in-Some-trouble-clause-fault
returns-in-Some-trouble-clause-fault g c =
    let done = c.loop.done in
    let events = c.args.events.now in
    only_written c.args.lo (take (done + c.write_all-wrote.result.count) events) _ _
    (more_written c.args.lo done c.write_all-wrote.result.count events c.loop.invariant.3 _ _ _ c.loop.invariant.4 c.write_all-wrote.ensures.sent)

pub returns-in-Some-trouble-clause-refused : goal.returns-in-Some-trouble-clause-refused
returns-in-Some-trouble-clause-refused g c = λ r is.
    let done = c.loop.done in
    let events = c.args.events.now in
    let part = take (length events - done) (drop done events) in
    let left : length part ≡ length events - done = length-rest events done in
    let front = c.loop.invariant.3 in
    let lo = c.args.lo in
    let stops = subst (λ t. StopsAt (g.I.Inlet.sent c.loop.inlet) (lo + done) (length part) c.write_all-wrote.result.count t)
    (c.in-Some-trouble.is ∙ ap trouble_of is) c.write_all-wrote.ensures.answer.stops in
    write_refused lo (take done events) (length events) (lo + done) (length part) c.write_all-wrote.result.count _ _ r c.loop.invariant.4
    (omega arith) (omega arith) stops

pub returns-in-None-trouble-clause-called : goal.returns-in-None-trouble-clause-called
returns-in-None-trouble-clause-called g c =
    let done = c.loop.done in
    let events = c.args.events.now in
    let count = c.write_all-wrote.result.count in
    let left : length (take (length events - done) (drop done events)) ≡ length events - done = length-rest events done in
    let all : count ≡ length (take (length events - done) (drop done events))
    = stops_nowhere _ _ _ _ _ c.in-None-trouble.is c.write_all-wrote.ensures.answer.stops in
    all_accepted g.I.Inlet.does _ _ c.args.lo (done + count) events (omega arith)
    (first_more g.I.Inlet.does _ _ _ c.args.lo done events c.write_all-wrote.result c.loop.invariant.3 c.loop.invariant.6
    (goes_on_with_none c.write_all-wrote.result.trouble c.in-None-trouble.is) c.loop.invariant.5
    (tried g.I.Inlet.does _ _ _ c.args.lo done events c.write_all-wrote.result c.write_all-wrote.ensures.answer.stops c.write_all-wrote.ensures.called))

pub returns-in-Some-trouble-clause-called : goal.returns-in-Some-trouble-clause-called
returns-in-Some-trouble-clause-called g c =
    let done = c.loop.done in
    let events = c.args.events.now in
    last_refused g.I.Inlet.does _ _ _ c.args.lo done events c.write_all-wrote.result _ c.in-Some-trouble.is (search rules) c.loop.invariant.3
    c.loop.invariant.6 c.loop.invariant.5
    (tried g.I.Inlet.does _ _ _ c.args.lo done events c.write_all-wrote.result c.write_all-wrote.ensures.answer.stops c.write_all-wrote.ensures.called)
