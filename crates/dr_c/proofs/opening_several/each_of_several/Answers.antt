use Rattle.std.proofs.Common.{rules, arith, ◌≡◌, ◌++◌, ◌∷◌, [], List, map, ap, sym, subst, ◌∙◌, All}
use Rattle.std.proofs.lemmas.List.Elements.{All-head, All-rest}
use Rattle.std.proofs.lemmas.Grind.{common_steps}
use Rattle.dr_c.specs.OpeningSeveral.{end_of}
use Rattle.dr_c.specs.Slots.{HasClaimed}
use Rattle.dr_c.specs.declared.one_of_several.OneOfSeveral.{OneOfSeveral}
use Rattle.dr_c.proofs.opening_several.each_of_several.Goals as goal

pub new-requires : goal.new-requires
new-requires c =
    let rest = c.next.new.self.rest.items in
    let next : c.loop-sender.sender-iterator.rest.items ≡ c.in-Some.sender ∷ rest = search rules in
    All-head HasClaimed c.in-Some.sender rest (subst (All HasClaimed) next c.loop-sender.invariant.1)

pub loop-sender-init : goal.loop-sender-init
loop-sender-init c =
    let rest = c.into_iter-sender-iterator.result.rest.items in
    let none : c.in_ok-each.each.items ≡ [] = search rules in
    let all : rest ≡ c.args.senders.items = search rules in
    (ap (λ (xs : List OneOfSeveral). map end_of xs ++ rest) none ∙ all, subst (All HasClaimed) (sym all) c.requires)

pub loop-sender-preserved : goal.loop-sender-preserved
loop-sender-preserved c =
    let each = c.push.new.self.items in
    let rest = c.next.new.self.rest.items in
    let next : c.loop-sender.sender-iterator.rest.items ≡ c.in-Some.sender ∷ rest = search rules in
    let more : each ≡ c.loop-sender.each.items ++ c.new.result ∷ [] = search rules in
    let ends : map end_of each ++ rest ≡ c.args.senders.items = grind (arith, common_steps) in
    (ends, All-rest HasClaimed c.in-Some.sender rest c.loop-sender.sender-iterator.rest.items next c.loop-sender.invariant.1)
