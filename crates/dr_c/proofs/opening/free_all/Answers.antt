use Rattle.std.proofs.Common.{◌≡◌, ℕ, ◌+◌, ◌-◌, List, length, drop, set, ap, sym, ◌∙◌, arith}
use Rattle.std.specs.Prelude.{Option, None, replicate}
use Rattle.std.proofs.lemmas.List.{map-set, length-map, length-set}
use Rattle.dr_c.specs.declared.end.End.{End}
use Rattle.dr_c.specs.declared.handle.Handle.{Handle}
use Rattle.dr_c.specs.Opening.{ends_in}
use Rattle.dr_c.proofs.Opened.{freed_more}
use Rattle.dr_c.proofs.opening.free_all.Goals as goal

pub loop-left-preserved : goal.loop-left-preserved
loop-left-preserved c =
    let inv = c.loop-left.invariant in let some = c.loop-left-test.true in
    let hs = c.loop-left.handles in let at : ℕ = c.loop-left.left - 1 in let h = c.free.new.self in
    let same : length (set hs at h) ≡ length hs = length-set hs at h in
    let next : c.loop-left.left ≡ at + 1 = omega arith in (
      (let within = inv.0 in omega arith),
      same ∙ inv.1,
      ap (λ (os : List (Option End)). drop at os)
          (map-set (λ (k : Handle). k.held.value) hs at h ∙ ap (λ (o : Option End). set (ends_in hs) at o) c.free.ensures.none)
          ∙ freed_more (ends_in hs) c.loop-left.left at (length hs) next inv.0 (length-map hs (λ (k : Handle). k.held.value)) inv.2
          ∙ ap (λ (n : ℕ). replicate (n - at) None) (sym same),
    )
