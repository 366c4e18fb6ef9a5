-- `regain` ends the lifetime of the lending, and has the value again.
use Rattle.dr_cells.proofs.Walk.{◌≡◌, ℕ, [], ◌∷◌, List, refl, sym, ap, a_type, named, Val, vunit, vptr, inst_fn, SProp, emp, Lft, fsep, ftrue, flft, ‵}
use Rattle.dr_cells.proofs.Walk.{raw, ◌⊛◌, later, ◌$◌, ◌∵◌, !, qed, by, move, keep, use0, use1, split, join, fsplit, fsplit3, fjoin, fjoin3, await}
use Rattle.dr_cells.proofs.Walk.{rewrite, feq_i, unit_lit, of_opd, returns, enter, alloc_all, pass_all, free_all, look_at, sets, tables, fact, fact_i, ◌⊑◌}
use Rattle.dr_cells.proofs.Walk.{RattleType, owns, types_at, plain, Ptr, nothing, heard, opens, closes, param, layouts, param_laws, mut_vals, mut_Tells}
use Rattle.dr_cells.proofs.Walk.{Stays, stay_ref, walk_of, Goes-ref, proved, leaves}
use Rattle.core.specs.Ptr.{ptr_add}
use Rattle.dr_cells.specs.Hold.{Hold, whole, IsBack, regained}
use Rattle.dr_cells.proofs.Cases.{back_of}
use Rattle.dr_cells.specs.Owned.{hold_owns}
use Rattle.dr_cells.specs.Tokens.{with_hold}
use Rattle.dr_cells.proofs.Lending.{lending_ends}
use Rattle.dr_cells.specs.contracts.token.Token as Token
use Rattle.dr_cells.specs.contracts.token.Token.regain.{ended, clauses}
use Rattle.dr_cells.specs.contracts.token.Token.regain.Key.{name as #self}
use Rattle.dr_cells.proofs.token.Token.regain.Statement.{statement}
use Rattle.dr_cells.proofs.token.Token.regain.Code as code

pub regain_spec : {M : Type 1} → statement M
regain_spec 𝓤 𝓛 𝓜 𝓡 wired X L =
    let H = 𝓛.H in let 𝓣 = tables 𝓤 H 𝓜 𝓡 𝓡.env in let R : RattleType = param 0 X in let En = ended X in let inst = layouts (a_type ∷ []) (X, tt) in
    let fn = inst_fn inst code.function in
    let Row : RattleType = Token.the_row R in let c = clauses X 𝓛 𝓜.mem 𝓡.returns in
    let self = plain (λ _. Row) in let hs : Stays En.signature.params En.kept = (stay_ref (0 ∷ []) tt self, tt) in
    proved 𝓛 En hs c 𝓜 𝓡 (Goes-ref 𝓛 2 0 tt self, tt) (#self inst) fn (code.unfolded 𝓤 H 𝓜 𝓡 wired (X, tt))
    (λ κs. (mut_vals, tt)) (λ κs. (mut_Tells (named 0) κs.0 Row, tt)) (λ κs qs bounds a gh are.
    let b : ℕ = a.0.ref_ptr.0 in let o : ℕ = a.0.ref_ptr.1 in let κ : Lft = κs.0 in let μ : Lft = κs.1.0 in let t : Row.Denot = a.0.now in
    let p : Ptr = ptr_add R t.cell t.strip in
    let y : (walk_of 𝓛 En hs c).Ghost = ((κs, qs, bounds, a, (vptr b o ∷ [], tt)), gh) in let Post : Val → SProp 𝓤 = (walk_of 𝓛 En hs c).post y in
    qed 𝓛 (((‵ (flft κ qs.0) ⊛ ‵ (fsep (flft μ qs.1.0) ftrue)) ⊛ ‵ (owns (types_at En.signature.params κs) a y.0.4)) ∷ raw (fact 𝓤 (μ ⊑ X.lives)) ∷ raw (fact 𝓤 (IsBack t.hold)) ∷ []) ∵
    move ! (1 ∷ 2 ∷ []) $ heard ! (μ ⊑ X.lives) (λ inX. heard ! (IsBack t.hold) (λ asked. let is = back_of t.hold asked in let r : ℕ = is.0 in
    let x : X.Denot = is.1 in
    split ! $ split ! $ move ! (2 ∷ []) $ fsplit ! $ fsplit3 ! $ keep ! (1 ∷ 2 ∷ 4 ∷ 5 ∷ []) $
    enter ! 𝓣.C 𝓣.Λ fn (vptr b o ∷ []) Post $ alloc_all ! (λ l. pass_all ! refl ((tt, tt), tt) $
    opens ! tt Row b o (λ vs. move ! (1 ∷ []) $ fsplit ! $ move ! (1 ∷ []) $
    -- [what the token holds; the field; the cell; the open borrow, in three entries; the other tokens]
    rewrite ! 0 (λ (h : Hold X.Denot). ‵ (hold_owns R t.cell p h)) is.2 refl $
    use1 𝓛 (later (‵ (hold_owns R t.cell p (whole x)))) (lending_ends 𝓛 R (param_laws 0 X L) t.cell p x r) $ await ! tt $
    let t' : Row.Denot = with_hold t (regained t.hold) in let Told : Type 0 = t' ≡ t' in
    rewrite ! 0 (λ (h : Hold X.Denot). ‵ (hold_owns R t.cell p h)) (sym (ap regained is.2)) refl $ move ! (1 ∷ 0 ∷ []) $ fjoin ! $
    move ! (1 ∷ 0 ∷ 2 ∷ 3 ∷ 4 ∷ []) $ closes ! tt Row t' vs b o $
    feq_i ! (List Val) (vptr b o ∷ []) (vptr b o ∷ []) refl $ fjoin3 ! $ nothing ! $ move ! (1 ∷ 0 ∷ []) $ fjoin ! $ move ! (1 ∷ 2 ∷ []) $ join ! $
    sets ! (of_opd ! (unit_lit !)) refl (tt, tt) $ use0 𝓛 (raw (fact 𝓤 Told)) (fact_i 𝓤 Told (emp 𝓤) refl) $ feq_i ! (List Val) (vunit ∷ []) (vunit ∷ []) refl $
    returns ! (look_at ! 0 refl) $ free_all ! refl $ keep ! (2 ∷ 3 ∷ 0 ∷ 1 ∷ []) $ by ! (leaves 𝓛 En hs c y vunit tt (t', tt) (tt, tt)))))))
