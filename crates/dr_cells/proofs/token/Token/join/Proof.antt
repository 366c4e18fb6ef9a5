-- `join` puts the token of a part to the rest.
use Rattle.dr_cells.proofs.Walk.{◌≡◌, ℕ, ◌-◌, drop, no, mark, told, stay_dropped, Goes-dropped, [], ◌∷◌, List, refl, sym, ap, a_type, named, Val, vunit}
use Rattle.dr_cells.proofs.Walk.{vptr, inst_fn, SProp, emp, Lft, fsep, ftrue, flft, ‵, raw, ◌⊛◌, ◌$◌, ◌∵◌, !, qed, by, move, keep, use0, use2, split, join}
use Rattle.dr_cells.proofs.Walk.{fsplit, fsplit3, fjoin, fjoin3, rewrite, feq_i, unit_lit, of_opd, returns, enter, alloc_all, pass_all, free_all, look_at}
use Rattle.dr_cells.proofs.Walk.{sets, tables, fact, fact_i, ◌⊑◌, RattleType, owns, types_at, plain, Ptr, nothing, heard, opens, closes, param, layouts}
use Rattle.dr_cells.proofs.Walk.{param_laws, mut_vals, mut_Tells, Stays, stay_ref, walk_of, Goes-ref, proved, leaves}
use Rattle.core.specs.Ptr.{ptr_add}
use Rattle.dr_cells.specs.Hold.{Hold, kept, CanJoin, joined}
use Rattle.dr_cells.proofs.Cases.{pair_of}
use Rattle.dr_cells.specs.Owned.{hold_owns}
use Rattle.dr_cells.specs.Tokens.{with_hold}
use Rattle.dr_cells.proofs.Lending.{part_comes}
use Rattle.dr_cells.specs.contracts.token.Token as Token
use Rattle.dr_cells.specs.contracts.token.Token.join.{ended, clauses}
use Rattle.dr_cells.specs.contracts.token.Token.join.Key.{name as #self}
use Rattle.dr_cells.proofs.token.Token.join.Statement.{statement}
use Rattle.dr_cells.proofs.token.Token.join.Code as code

pub join_spec : {M : Type 1} → statement M
join_spec 𝓤 𝓛 𝓜 𝓡 wired X L =
    let H = 𝓛.H in let 𝓣 = tables 𝓤 H 𝓜 𝓡 𝓡.env in let R : RattleType = param 0 X in let En = ended X in let inst = layouts (a_type ∷ []) (X, tt) in
    let fn = inst_fn inst code.function in
    let Row : RattleType = Token.the_row R in let c = clauses X 𝓛 𝓜.mem 𝓡.returns in
    let self = plain (λ _. Row) in let hs : Stays En.signature.params En.kept = (stay_ref (0 ∷ []) tt self, (stay_dropped self no, tt)) in
    proved 𝓛 En hs c 𝓜 𝓡 (Goes-ref 𝓛 2 0 tt self, (Goes-dropped 𝓛 2 self no (λ κs x f. refl), tt)) (#self inst) fn (code.unfolded 𝓤 H 𝓜 𝓡 wired (X, tt))
    (λ κs. (mut_vals, ((λ e. mark ∷ []), tt))) (λ κs. (mut_Tells (named 0) κs.0 Row, ((λ e vs so. told R vs so.0), tt))) (λ κs qs bounds a gh are.
    let b : ℕ = a.0.ref_ptr.0 in let o : ℕ = a.0.ref_ptr.1 in let κ : Lft = κs.0 in let μ : Lft = κs.1.0 in let t : Row.Denot = a.0.now in
    let p : Ptr = ptr_add R t.cell t.strip in let e : Row.Denot = a.1.0 in let s : Ptr = ptr_add R e.cell e.strip in
    let y : (walk_of 𝓛 En hs c).Ghost = ((κs, qs, bounds, a, (vptr b o ∷ [], (mark ∷ [], tt))), gh) in let Post : Val → SProp 𝓤 = (walk_of 𝓛 En hs c).post y in
    qed 𝓛 (((‵ (flft κ qs.0) ⊛ ‵ (fsep (flft μ qs.1.0) ftrue)) ⊛ ‵ (owns (types_at En.signature.params κs) a y.0.4)) ∷ raw (fact 𝓤 (μ ⊑ X.lives)) ∷ raw (fact 𝓤 (CanJoin t.hold e.hold)) ∷ []) ∵
    move ! (1 ∷ 2 ∷ []) $ heard ! (μ ⊑ X.lives) (λ inX. heard ! (CanJoin t.hold e.hold) (λ asked. let is = pair_of t.hold e.hold asked in
    let r : ℕ = is.0 in let k : ℕ = is.1 in let x : X.Denot = is.2 in let v : X.Denot = is.3 in let same = is.4 in let other = is.5 in
    split ! $ split ! $ move ! (2 ∷ []) $ fsplit3 ! $ move ! (1 ∷ []) $ fsplit ! $ drop ! $ move ! (1 ∷ []) $ fsplit3 ! $ keep ! (1 ∷ 2 ∷ 5 ∷ 6 ∷ 3 ∷ []) $
    enter ! 𝓣.C 𝓣.Λ fn (vptr b o ∷ mark ∷ []) Post $ alloc_all ! (λ l. pass_all ! refl ((tt, tt), ((tt, (tt, tt)), tt)) $
    opens ! tt Row b o (λ vs. move ! (1 ∷ []) $ fsplit ! $ move ! (1 ∷ 7 ∷ []) $
    -- [what the token holds; what the part holds; the field; the cell; the open borrow, in three entries; the other tokens]
    rewrite ! 0 (λ (h : Hold X.Denot). ‵ (hold_owns R t.cell p h)) same refl $ rewrite ! 1 (λ (h : Hold X.Denot). ‵ (hold_owns R e.cell s h)) other refl $
    use2 𝓛 (‵ (hold_owns R t.cell p (kept r (k - 1) x))) (part_comes 𝓛 R (param_laws 0 X L) t.cell p x e.cell s v r k is.6) $
    let t' : Row.Denot = with_hold t (joined t.hold) in let Told : Type 0 = t' ≡ t' in
    rewrite ! 0 (λ (h : Hold X.Denot). ‵ (hold_owns R t.cell p h)) (sym (ap joined same)) refl $ move ! (1 ∷ 0 ∷ []) $ fjoin ! $
    move ! (1 ∷ 0 ∷ 2 ∷ 3 ∷ 4 ∷ []) $ closes ! tt Row t' vs b o $
    feq_i ! (List Val) (vptr b o ∷ []) (vptr b o ∷ []) refl $ fjoin3 ! $ nothing ! $ nothing ! $ fjoin ! $ move ! (1 ∷ 0 ∷ []) $ fjoin ! $
    move ! (1 ∷ 2 ∷ []) $ join ! $
    sets ! (of_opd ! (unit_lit !)) refl (tt, tt) $ use0 𝓛 (raw (fact 𝓤 Told)) (fact_i 𝓤 Told (emp 𝓤) refl) $ feq_i ! (List Val) (vunit ∷ []) (vunit ∷ []) refl $
    returns ! (look_at ! 0 refl) $ free_all ! refl $ keep ! (2 ∷ 3 ∷ 0 ∷ 1 ∷ []) $ by ! (leaves 𝓛 En hs c y vunit tt (t', (tt, tt)) (tt, (tt, tt))))))))
