use Rattle.std.proofs.Common.{◌≡◌, ℕ, List, [], ◌∷◌, ◌++◌, length, set, ap, sym, ◌∙◌, arith, append_assoc}
use Rattle.std.proofs.lemmas.List.{map-set}
use Rattle.std.specs.Prelude.{Option, Some}
use Rattle.dr_runs.proofs.Gathering.{filled_more}
use Rattle.dr_c.specs.declared.end.End.{End}
use Rattle.dr_c.specs.declared.handle.Handle.{Handle}
use Rattle.dr_c.specs.Opening.{ends_in, has}
use Rattle.dr_c.proofs.opening.fill.Goals as goal

pub loop-end-preserved : goal.loop-end-preserved
loop-end-preserved c =
    let inv = c.loop-end.invariant in let popped = c.in-Some.ensures.items in
    let place : c.len.result ≡ length c.pop.new.self.items = (let ok = c.pop.new.self.ok in let len = c.len.ensures in omega arith) in
    let kept = map-set (λ (h : Handle). h.held.value) c.loop-end.handles c.len.result c.keep.new.self
    ∙ ap (λ (o : Option End). set (ends_in c.loop-end.handles) c.len.result o) (c.keep.ensures ∙ ap (λ (e : End). Some e) c.in_ok-own.ensures)
    ∙ ap (λ (n : ℕ). set (ends_in c.loop-end.handles) n (has c.in-Some.end)) place in (
      c.in-Some.end ∷ inv.0,
      sym (append_assoc c.pop.new.self.items (c.in-Some.end ∷ []) inv.0) ∙ ap (λ (rs : List End). rs ++ inv.0) (sym popped) ∙ inv.1,
      filled_more inv.2 inv.1 popped kept,
    )
