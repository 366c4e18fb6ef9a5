-- `give` puts a cell after the last.
use Rattle.dr_cells.proofs.Walk.{◌≡◌, ℕ, ◌+◌, ◌++◌, length, drop, no, mark, told, stay_dropped, Goes-dropped, [], ◌∷◌, List, refl, a_type, named, Val}
use Rattle.dr_cells.proofs.Walk.{vunit, vptr, inst_fn, SProp, emp, Lft, fsep, ftrue, flft, ‵, raw, ◌⊛◌, ◌$◌, ◌∵◌, !, qed, by, move, keep, use0, use2}
use Rattle.dr_cells.proofs.Walk.{split, join, fsplit, fsplit3, fjoin, fjoin3, rewrite, feq_i, unit_lit, of_opd, returns, enter, alloc_all, pass_all}
use Rattle.dr_cells.proofs.Walk.{free_all, look_at, sets, tables, fact, fact_i, ◌⊑◌, RattleType, owns, types_at, plain, Ptr, nothing, heard, opens, closes}
use Rattle.dr_cells.proofs.Walk.{param, layouts, mut_vals, mut_Tells, Stays, stay_ref, walk_of, Goes-ref, proved, leaves}
use Rattle.dr_cells.specs.Hold.{Hold, whole, IsWhole}
use Rattle.dr_cells.proofs.Cases.{whole_of}
use Rattle.dr_cells.specs.Owned.{token_owns, row_owns}
use Rattle.dr_cells.specs.Tokens.{IsOf}
use Rattle.dr_cells.proofs.Rows.{row_grows}
use Rattle.dr_cells.specs.contracts.row.Row as Row
use Rattle.dr_cells.specs.contracts.token.Token as Token
use Rattle.dr_cells.specs.contracts.row.Row.give.{ended, clauses}
use Rattle.dr_cells.specs.contracts.row.Row.give.Key.{name as #self}
use Rattle.dr_cells.proofs.row.Row.give.Statement.{statement}
use Rattle.dr_cells.proofs.row.Row.give.Code as code

pub give_spec : {M : Type 1} → statement M
give_spec 𝓤 𝓛 𝓜 𝓡 wired X L =
    let H = 𝓛.H in let 𝓣 = tables 𝓤 H 𝓜 𝓡 𝓡.env in let R : RattleType = param 0 X in let En = ended X in let inst = layouts (a_type ∷ []) (X, tt) in
    let fn = inst_fn inst code.function in
    let Self : RattleType = Row.the_row R in let In : RattleType = Token.the_row R in let c = clauses X 𝓛 𝓜.mem 𝓡.returns in
    let self = plain (λ _. Self) in let token = plain (λ _. In) in
    let hs : Stays En.signature.params En.kept = (stay_ref (0 ∷ []) tt self, (stay_dropped token no, tt)) in
    proved 𝓛 En hs c 𝓜 𝓡 (Goes-ref 𝓛 2 0 tt self, (Goes-dropped 𝓛 2 token no (λ κs x f. refl), tt)) (#self inst) fn (code.unfolded 𝓤 H 𝓜 𝓡 wired (X, tt))
    (λ κs. (mut_vals, ((λ e. mark ∷ []), tt))) (λ κs. (mut_Tells (named 0) κs.0 Self, ((λ e vs so. told R vs so.0), tt))) (λ κs qs bounds a gh are.
    let b : ℕ = a.0.ref_ptr.0 in let o : ℕ = a.0.ref_ptr.1 in let κ : Lft = κs.0 in let μ : Lft = κs.1.0 in let d : Self.Denot = a.0.now in
    let e : In.Denot = a.1.0 in let s : Ptr = d.strip in let i : ℕ = d.from in let j : ℕ = i + length d.items in
    let Asked : Type 0 = IsOf s j e × IsWhole e.hold in
    let y : (walk_of 𝓛 En hs c).Ghost = ((κs, qs, bounds, a, (vptr b o ∷ [], (mark ∷ [], tt))), gh) in let Post : Val → SProp 𝓤 = (walk_of 𝓛 En hs c).post y in
    qed 𝓛 (((‵ (flft κ qs.0) ⊛ ‵ (fsep (flft μ qs.1.0) ftrue)) ⊛ ‵ (owns (types_at En.signature.params κs) a y.0.4)) ∷ raw (fact 𝓤 (μ ⊑ X.lives)) ∷ raw (fact 𝓤 Asked) ∷ []) ∵
    move ! (2 ∷ []) $ heard ! Asked (λ asked. let is = whole_of e.hold asked.1 in let x : X.Denot = is.0 in
    split ! $ split ! $ move ! (2 ∷ []) $ fsplit3 ! $ move ! (1 ∷ []) $ fsplit ! $ drop ! $ move ! (1 ∷ []) $ fsplit3 ! $ keep ! (1 ∷ 2 ∷ 5 ∷ 6 ∷ 3 ∷ []) $
    enter ! 𝓣.C 𝓣.Λ fn (vptr b o ∷ mark ∷ []) Post $ alloc_all ! (λ l. pass_all ! refl ((tt, tt), ((tt, (tt, tt)), tt)) $
    opens ! tt Self b o (λ vs. move ! (1 ∷ []) $ fsplit ! $ move ! (1 ∷ 7 ∷ []) $
    -- [what the row owns; what the token owns; the field; the cell; the open borrow, in three entries; the other tokens]
    rewrite ! 1 (λ (h : Hold X.Denot). ‵ (token_owns R e.cell e.strip h)) is.1 refl $
    rewrite ! 1 (λ (k : ℕ × Ptr). ‵ (token_owns R k.0 k.1 (whole x))) (λ n. (asked.0.1 n, asked.0.0 n)) refl $
    use2 𝓛 (‵ (row_owns R s i (d.items ++ x ∷ []))) (row_grows 𝓛 R s i j d.items x refl) $
    let d' : Self.Denot = record { mark = d.mark; strip = s; from = i; items = d.items ++ x ∷ [] } in let Same : Type 0 = (s ≡ s) × (i ≡ i) in
    let Last : Type 0 = (z : X.Denot) × (e.hold ≡ whole z) × (d'.items ≡ d.items ++ z ∷ []) in
    move ! (1 ∷ 0 ∷ []) $ fjoin ! $ move ! (1 ∷ 0 ∷ 2 ∷ 3 ∷ 4 ∷ []) $ closes ! tt Self d' vs b o $
    feq_i ! (List Val) (vptr b o ∷ []) (vptr b o ∷ []) refl $ fjoin3 ! $ nothing ! $ nothing ! $ fjoin ! $ move ! (1 ∷ 0 ∷ []) $ fjoin ! $
    move ! (1 ∷ 2 ∷ []) $ join ! $
    sets ! (of_opd ! (unit_lit !)) refl (tt, tt) $ use0 𝓛 (raw (fact 𝓤 Last)) (fact_i 𝓤 Last (emp 𝓤) (x, is.1, refl)) $
    use0 𝓛 (raw (fact 𝓤 Same)) (fact_i 𝓤 Same (emp 𝓤) (refl, refl)) $ join ! $
    feq_i ! (List Val) (vunit ∷ []) (vunit ∷ []) refl $
    returns ! (look_at ! 0 refl) $ free_all ! refl $ keep ! (2 ∷ 3 ∷ 0 ∷ 1 ∷ []) $ by ! (leaves 𝓛 En hs c y vunit tt (d', (tt, tt)) (tt, (tt, tt)))))))
