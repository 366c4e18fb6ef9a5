-- `take` parts the first cell from the rest.
use Rattle.dr_cells.proofs.Walk.{◌≡◌, ℕ, ◌+◌, ◌<◌, length, [], ◌∷◌, List, refl, a_type, named, Val, vptr, inst_fn, SProp, emp, Lft, fsep, ftrue, flft, ‵}
use Rattle.dr_cells.proofs.Walk.{raw, ◌⊛◌, ◌$◌, ◌∵◌, !, qed, by, move, keep, use0, split, join, fsplit, fsplit3, fjoin, fjoin3, rewrite, feq_i, no_more}
use Rattle.dr_cells.proofs.Walk.{and_then, get, agg, mark, Mark, made, returns, enter, alloc_all, pass_all, free_all, look_at, sets, tables, fact, fact_i}
use Rattle.dr_cells.proofs.Walk.{◌⊑◌, RattleType, owns, types_at, plain, Ptr, nothing, heard, opens, closes, param, layouts, mut_vals, mut_Tells, Stays}
use Rattle.dr_cells.proofs.Walk.{stay_ref, walk_of, Goes-ref, proved, leaves}
use Rattle.dr_cells.specs.Hold.{whole}
use Rattle.dr_cells.specs.Owned.{row_owns}
use Rattle.dr_cells.specs.Tokens.{IsOf}
use Rattle.dr_cells.proofs.Rows.{some_of}
use Rattle.dr_cells.specs.contracts.row.Row as Row
use Rattle.dr_cells.specs.contracts.token.Token as Token
use Rattle.dr_cells.specs.contracts.row.Row.take.{ended, clauses}
use Rattle.dr_cells.specs.contracts.row.Row.take.Key.{name as #self}
use Rattle.dr_cells.proofs.row.Row.take.Statement.{statement}
use Rattle.dr_cells.proofs.row.Row.take.Code as code

pub take_spec : {M : Type 1} → statement M
take_spec 𝓤 𝓛 𝓜 𝓡 wired X L =
    let H = 𝓛.H in let 𝓣 = tables 𝓤 H 𝓜 𝓡 𝓡.env in let R : RattleType = param 0 X in let En = ended X in let inst = layouts (a_type ∷ []) (X, tt) in
    let fn = inst_fn inst code.function in
    let Self : RattleType = Row.the_row R in let Out : RattleType = Token.the_row R in let c = clauses X 𝓛 𝓜.mem 𝓡.returns in
    let self = plain (λ _. Self) in let hs : Stays En.signature.params En.kept = (stay_ref (0 ∷ []) tt self, tt) in
    proved 𝓛 En hs c 𝓜 𝓡 (Goes-ref 𝓛 2 0 tt self, tt) (#self inst) fn (code.unfolded 𝓤 H 𝓜 𝓡 wired (X, tt))
    (λ κs. (mut_vals, tt)) (λ κs. (mut_Tells (named 0) κs.0 Self, tt)) (λ κs qs bounds a gh are.
    let b : ℕ = a.0.ref_ptr.0 in let o : ℕ = a.0.ref_ptr.1 in let κ : Lft = κs.0 in let μ : Lft = κs.1.0 in let d : Self.Denot = a.0.now in
    let s : Ptr = d.strip in let i : ℕ = d.from in
    let y : (walk_of 𝓛 En hs c).Ghost = ((κs, qs, bounds, a, (vptr b o ∷ [], tt)), gh) in let Post : Val → SProp 𝓤 = (walk_of 𝓛 En hs c).post y in
    qed 𝓛 (((‵ (flft κ qs.0) ⊛ ‵ (fsep (flft μ qs.1.0) ftrue)) ⊛ ‵ (owns (types_at En.signature.params κs) a y.0.4)) ∷ raw (fact 𝓤 (μ ⊑ X.lives)) ∷ raw (fact 𝓤 (0 < length d.items)) ∷ []) ∵
    move ! (2 ∷ []) $ heard ! (0 < length d.items) (λ some. let is = some_of d.items some in let x : X.Denot = is.0 in let xs : List X.Denot = is.1 in
    split ! $ split ! $ move ! (2 ∷ []) $ fsplit ! $ fsplit3 ! $ keep ! (1 ∷ 2 ∷ 4 ∷ 5 ∷ []) $
    enter ! 𝓣.C 𝓣.Λ fn (vptr b o ∷ []) Post $ alloc_all ! (λ l. pass_all ! refl ((tt, tt), tt) $
    opens ! tt Self b o (λ vs. move ! (1 ∷ []) $ fsplit ! $ move ! (1 ∷ []) $
    rewrite ! 0 (λ (ys : List X.Denot). ‵ (row_owns R s i ys)) is.2 refl $ fsplit ! $
    -- [the first; the rest; the field; the cell; the open borrow, in three entries; the other tokens]
    let d' : Self.Denot = record { mark = d.mark; strip = s; from = i + 1; items = xs } in
    let new : Out.Denot = record { mark = record {}; strip = s; cell = i; hold = whole x } in
    let Rest : Type 0 = (s ≡ s) × (i + 1 ≡ i + 1) in let First : Type 0 = (z : X.Denot) × (d.items ≡ z ∷ xs) × IsOf s i new × (new.hold ≡ whole z) in
    move ! (2 ∷ 1 ∷ []) $ fjoin ! $ move ! (2 ∷ 0 ∷ 3 ∷ 4 ∷ 5 ∷ []) $ closes ! tt Self d' vs b o $
    feq_i ! (List Val) (vptr b o ∷ []) (vptr b o ∷ []) refl $ fjoin3 ! $ nothing ! $ move ! (1 ∷ 0 ∷ []) $ fjoin ! $ move ! (1 ∷ 3 ∷ []) $ join ! $
    -- [the tokens; self; what the first owns]
    sets ! (agg ! (no_more !)) refl (tt, tt) $ sets ! (agg ! (and_then ! (get ! refl) (no_more !))) refl (tt, (tt, tt)) $
    move ! (2 ∷ []) $ use0 𝓛 (‵ ((Mark R).own_val (tt, tt) (mark ∷ []))) (made R 𝓛) $ fjoin ! $
    use0 𝓛 (raw (fact 𝓤 First)) (fact_i 𝓤 First (emp 𝓤) (x, is.2, (refl, refl), refl)) $
    use0 𝓛 (raw (fact 𝓤 Rest)) (fact_i 𝓤 Rest (emp 𝓤) (refl, refl)) $ join ! $
    returns ! (look_at ! 0 refl) $ free_all ! refl $ keep ! (2 ∷ 3 ∷ 1 ∷ 0 ∷ []) $ by ! (leaves 𝓛 En hs c y mark new (d', tt) (tt, tt))))))
