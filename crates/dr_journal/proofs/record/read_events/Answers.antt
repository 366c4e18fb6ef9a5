use Rattle.std.proofs.Common.{rules, ◌≡◌, None, ap, subst, arith}
use Rattle.dr_journal.specs.Calls.Journals.{bytes_of}
use Rattle.dr_journal.specs.Calls.Records.{IsFirstBad}
use Rattle.dr_journal.proofs.Values.{place_of, first_bad}
use Rattle.dr_journal.proofs.record.read_events.Goals as goal

pub returns-in-None-clause-bad : goal.returns-in-None-clause-bad
returns-in-None-clause-bad g c = λ n is.
    let e = g.E.AsRecord in
    let item = c.index-records-n.result in
    let none : e.value_in item.items ≡ None = search rules in
    let here = first_bad e.value_in e.value c.args.records.now c.loop-n.n item (omega (arith, c.loop-n-test.true)) c.index-records-n.is c.loop-n.events.items c.loop-n.invariant none in
    subst (λ k. IsFirstBad e.value_in (bytes_of c.args.records.now) k) (ap place_of is) here
