-- `none` makes a row that owns nothing.
use Rattle.dr_cells.proofs.Walk.{[], ◌∷◌, ◌≡◌, refl, a_type, Val, inst_fn, SProp, emp, RattleType, ‵, raw, ◌⊛◌, ◌$◌, ◌∵◌, !, qed, by, keep, use0, split}
use Rattle.dr_cells.proofs.Walk.{fjoin, no_more, and_then, returns, enter, alloc_all, pass_all, free_all, look_at, get, sets, agg, tables, fact, fact_i}
use Rattle.dr_cells.proofs.Walk.{Ptr, owns, types_at, plain, no, nothing, param, layouts, alive, Stays, stay_dropped, walk_of, Goes-dropped, proved}
use Rattle.dr_cells.proofs.Walk.{leaves, mark, RowMark, row_made, strip_told}
use Rattle.std_alloc.proofs.RcSteps.{word, word-Good}
use Rattle.dr_cells.specs.contracts.cells.Cells as Cells
use Rattle.dr_cells.specs.contracts.row.Row as Row
use Rattle.dr_cells.specs.contracts.row.Row.none.{ended, clauses}
use Rattle.dr_cells.specs.contracts.row.Row.none.Key.{name as #self}
use Rattle.dr_cells.proofs.row.Row.none.Statement.{statement}
use Rattle.dr_cells.proofs.row.Row.none.Code as code

pub none_spec : {M : Type 1} → statement M
none_spec 𝓤 𝓛 𝓜 𝓡 wired X L =
    let H = 𝓛.H in let 𝓣 = tables 𝓤 H 𝓜 𝓡 𝓡.env in let R : RattleType = param 0 X in let En = ended X in let c = clauses X 𝓛 𝓜.mem 𝓡.returns in
    let inst = layouts (a_type ∷ []) (X, tt) in let fn = inst_fn inst code.function in
    let At : RattleType = Cells.the_row R in let Out : RattleType = Row.the_row R in
    let hs : Stays En.signature.params En.kept = (stay_dropped (plain (λ _. At)) no, tt) in
    proved 𝓛 En hs c 𝓜 𝓡 (Goes-dropped 𝓛 1 (plain (λ _. At)) no (λ κs x f. refl), tt) (#self inst) fn (code.unfolded 𝓤 H 𝓜 𝓡 wired (X, tt))
    (λ κs. ((λ s. word s.ptr ∷ []), tt)) (λ κs. ((λ s vs is. strip_told R s.ptr vs is), tt)) (λ κs qs bounds a gh are.
    let at : Ptr = a.0.ptr in let y : (walk_of 𝓛 En hs c).Ghost = ((κs, qs, bounds, a, (word at ∷ [], tt)), gh) in
    let Post : Val → SProp 𝓤 = (walk_of 𝓛 En hs c).post y in
    let new : Out.Denot = record { mark = record {}; strip = at; from = 0; items = [] } in let Told : Type 0 = (at ≡ at) × (new.from ≡ 0) × (new.items ≡ []) in
    qed 𝓛 ((raw (alive 𝓛 En.signature κs qs) ⊛ ‵ (owns (types_at En.signature.params κs) a y.0.4)) ∷ raw ((c κs a).requires gh) ∷ []) ∵ split ! $
    keep ! (0 ∷ []) $
    enter ! 𝓣.C 𝓣.Λ fn (word at ∷ []) Post $ alloc_all ! (λ l. pass_all ! refl (word-Good [] at, tt) $ sets ! (agg ! (no_more !)) refl (tt, tt) $
    sets ! (agg ! (and_then ! (get ! refl) (no_more !))) refl (tt, (tt, tt)) $
    use0 𝓛 (raw (fact 𝓤 Told)) (fact_i 𝓤 Told (emp 𝓤) (refl, refl, refl)) $ nothing ! $
    use0 𝓛 (‵ ((RowMark R).own_val (tt, tt) (mark ∷ []))) (row_made R 𝓛) $ fjoin ! $ nothing ! $ nothing ! $ fjoin ! $
    returns ! (look_at ! 0 refl) $ free_all ! refl $ keep ! (3 ∷ 0 ∷ 1 ∷ 2 ∷ []) $ by ! (leaves 𝓛 En hs c y mark new (tt, tt) (tt, tt))))
