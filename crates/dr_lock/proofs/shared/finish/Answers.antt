use Rattle.std.proofs.Common.{◌≡◌, ◌∙◌, ap, arith, length, sym}
use Rattle.std.specs.Prelude.{sum_by, vec_len}
use Rattle.dr_lock.specs.Meaning.History.{entries_since, halts_in}
use Rattle.dr_lock.proofs.Going.{all_back, length_since, sum_none, tells_both}
use Rattle.dr_lock.proofs.shared.finish.Goals as goal
use Rattle.dr_lock.proofs.shared.finish.Given.{Over}
use Rattle.dr_lock.proofs.shared.finish.Goals.{After-audit}

-- the history tells as many calls and halts as all ends made
tells_all : (g : Over) (c : After-audit g)
    → (length (entries_since g.L.Exchange.begun c.into_parts-recorded.result.0.history) ≡ sum_by (λ end. end.calls) c.args.ends.items)
    × (halts_in (entries_since g.L.Exchange.begun c.into_parts-recorded.result.0.history) ≡ sum_by (λ end. end.halts) c.args.ends.items)
tells_all g c =
    let shared = c.shared.invariant in
    let seen = c.shared.view_is in
    let ends = c.args.ends in
    let left = c.loop-end.ends in
    let over = c.in_default.ensures.cases.0 in
    let none : length left.items ≡ 0 = (let ok = left.ok in omega arith) in
    let no_calls = sum_none (λ end. end.calls) left.items none in
    let no_halts = sum_none (λ end. end.halts) left.items none in
    let calls = sum_by (λ end. end.calls) ends.items in
    let halts = sum_by (λ end. end.halts) ends.items in
    let now = c.loop-end.invariant in
    let locked = c.into_parts-recorded in
    let back = all_back c.loop-end.all.parts c.args.shared.given (vec_len ends) calls halts c.loop-end.all.amount locked.result.1.total (record {
      all = (let parts = now.parts in omega arith);
      few = now.few;
      most = (let given = ap (λ v. v.given) seen in let most = shared.3 in omega arith);
      enough = (let given = ap (λ v. v.given) seen in let back = c.if-len-shared.false in let many = c.len.ensures in omega arith);
      weighs = (let amount = now.amount in omega arith);
      small = (let small = now.small in omega arith);
      whole = λ parts. c.audit.ensures.whole (parts ∙ sym c.shared.inside.whole.parts);
    }) in
    tells_both g.L.Exchange.begun locked.result.0.history calls halts locked.ensures.goes_on locked.ensures.fits back.0 (back.1 ∙ locked.ensures.counted)

pub returns-clause-halts : goal.returns-clause-halts
returns-clause-halts g c = (tells_all g (goal.at.returns-clause-halts g c).After-audit).1

pub returns-clause-entries : goal.returns-clause-entries
returns-clause-entries g c =
    let since = (tells_all g (goal.at.returns-clause-entries g c).After-audit).0 in
    let locked = c.into_parts-recorded in
    let long = length_since g.L.Exchange.begun locked.result.0.history locked.ensures.goes_on in
    let begun = ap (λ v. v.begun) c.shared.view_is in
    let at = c.shared.invariant.2 in
    omega arith
