use Rattle.std.proofs.Common.{rules, refl, ap, ◌+◌, arith}
use Rattle.dr_ring.specs.Calls.Ends.{SenderEnd}
use Rattle.dr_ring.proofs.Fronts.{fits_publish, raises}
use Rattle.dr_runs.proofs.Beginnings.{begins_same, begins_on}
use Rattle.dr_ring.proofs.Publishing.{publish_ready, publish_unwritten, publish_done, publish_late}
use Rattle.dr_ring.proofs.sender.Sender.publish.Goals as goal

pub returns-then-not-has_all : goal.returns-then-not-has_all
returns-then-not-has_all c =
    let same = ap (λ (e : SenderEnd). e.knows) c.self.view_is in
    (refl, publish_unwritten same c.self.invariant c.if-lo-hi.false c.if-hi-self.false c.if-lo-self.false c.if-not-has_all.ensures, refl, begins_same _)

pub returns-then-lo-self-2 : goal.returns-then-lo-self-2
returns-then-lo-self-2 c =
    let same = ap (λ (e : SenderEnd). e.knows) c.self.view_is in
    let late = publish_late same c.self.invariant c.if-lo-hi.false c.if-hi-self.false c.if-lo-self.false c.if-not-has_all.ensures c.if-lo-self-2.true in
    (refl, late, refl, begins_same _)

pub publish-requires-clause-written : goal.publish-requires-clause-written
publish-requires-clause-written c =
    publish_ready refl c.self.invariant c.if-lo-hi.false c.if-hi-self.false c.if-lo-self.false c.if-not-has_all.ensures c.if-lo-self-2.false

pub returns : goal.returns
returns c =
    let same = ap (λ (e : SenderEnd). e.knows) c.self.view_is in (
      search rules,
      publish_done same c.self.invariant c.if-lo-hi.false c.if-hi-self.false c.if-lo-self.false _ c.if-not-has_all.ensures
          c.if-lo-self-2.false c.publish.ensures.1,
      search rules,
      search (rules, begins_same, begins_on),
    )

pub invariant_of-self : goal.invariant_of-self
invariant_of-self c =
    let F = c.self.invariant in let front = F.front in let next = F.next in
    let r = c.self.inside.station.knows in
    let ready = publish_ready refl F c.if-lo-hi.false c.if-hi-self.false c.if-lo-self.false c.if-not-has_all.ensures c.if-lo-self-2.false in
    let step = c.publish.ensures.1 in
    fits_publish r (c.args.hi + 1) (let a = c.if-lo-hi.false in let b = c.if-lo-self.false in omega arith)
    (let a = c.if-hi-self.false in omega arith) ready _ _ _ F step (raises _ _ _ c.max-self-inside.ensures)
