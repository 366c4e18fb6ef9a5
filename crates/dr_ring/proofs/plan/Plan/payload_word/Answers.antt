use Rattle.std.proofs.Common.{◌≡◌, length, map, arith}
use Rattle.std.proofs.lemmas.List.{length-map}
use Rattle.dr_ring.proofs.Plans.{slot_inside, few_words}
use Rattle.dr_ring.proofs.plan.Plan.payload_word.Goals as goal

pub overflow_add-result-2 : goal.overflow_add-result-2
overflow_add-result-2 c =
    let few = few_words _ c.self.invariant.made in let inside = slot_inside _ c.args.sequence c.self.invariant.made in
    let at = c.slot.ensures in let count = c.len.ensures in
    let same : length (map (λ v. v.items) c.self.inside.upstreams.items) ≡ length c.self.inside.upstreams.items =
    length-map c.self.inside.upstreams.items (λ v. v.items) in omega arith

pub overflow_add-result-3 : goal.overflow_add-result-3
overflow_add-result-3 c =
    let few = few_words _ c.self.invariant.made in let inside = slot_inside _ c.args.sequence c.self.invariant.made in
    let at = c.slot.ensures in let count = c.len.ensures in let low = c.requires in
    let same : length (map (λ v. v.items) c.self.inside.upstreams.items) ≡ length c.self.inside.upstreams.items =
    length-map c.self.inside.upstreams.items (λ v. v.items) in omega arith

pub returns-clause-inside : goal.returns-clause-inside
returns-clause-inside c =
    let inside = slot_inside _ c.args.sequence c.self.invariant.made in let at = c.slot.ensures in let count = c.len.ensures in let low = c.requires in
    let same : length (map (λ v. v.items) c.self.inside.upstreams.items) ≡ length c.self.inside.upstreams.items =
    length-map c.self.inside.upstreams.items (λ v. v.items) in rw (← c.self.view_is) (omega arith)
