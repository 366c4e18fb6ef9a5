-- `get_mut` lends the value, and the token follows it.
use Rattle.dr_cells.proofs.Walk.{Ura, Logic, ent, sep, ◌≡◌, ℕ, ◌+◌, ◌*◌, ◌^◌, ◌<◌, [], ◌∷◌, List, refl, sym, ◌∙◌, arith, w64, a_type, named, Val, vint}
use Rattle.dr_cells.proofs.Walk.{vptr, inst_fn, SProp, emp, id⊢, Lft, Fml, fsep, ftrue, flft, sem, ‵, raw, ◌⊛◌, at_ret, ◌$◌, ◌∵◌, !, qed, by, move, keep}
use Rattle.dr_cells.proofs.Walk.{use0, use1, split, join, fsplit, fsplit3, fjoin, rewrite, done, of_opd, returns, enter, alloc_all, pass_all, free_all}
use Rattle.dr_cells.proofs.Walk.{look_at, get, get_in, sets, env, tables, fact, fact_i, ◌⊑◌, yes, no, RattleType, owns, types_at, plain, Ptr, block_ptr}
use Rattle.dr_cells.proofs.Walk.{nothing, heard, param, layouts, Stays, stay_dropped, walk_of, Goes-dropped, proved, leaves, full_share, subst}
use base.Fml.{fat}
use base.Logic.{never}
use Rattle.core.proofs.ptr.Rows.{times_below, one_below}
use types.Kit.{flt_l, flt_i, fpack, fsplit3, later, some, await, pick, group, split3}
use types.Run.{stop, fld, addr, bin, size_lit, first, blocks, exec}
use types.ByLocal.{through, sets_last, take_at, give_at}
use types.Part.{sub, whole as at_whole}
use denote.Builtin.{usize}
use denote.Memory.{mem, cell_at, part_at, part_of}
use denote.Follow.{follows, Part, lends_Part}
use denote.Param.{layout}
use denote.Plain.{uint_vals, uint_Tells}
use denote.RawPtr.{in_a_block, lies_at}
use denote.Ref.{MutBor, MutRef, mut_vals, mut_Tells}
use Rattle.core.proofs.atomic.Steps.{tail}
use Rattle.core.specs.Mem.{type_size}
use Rattle.core.specs.Ptr.{ptr_add}
use Rattle.std_alloc.proofs.RcSteps.{word, word-Good}
use Rattle.dr_cells.specs.Hold.{Hold, whole, IsWhole}
use Rattle.dr_cells.proofs.Cases.{whole_of}
use Rattle.dr_cells.specs.Owned.{hold_owns}
use Rattle.dr_cells.specs.Tokens.{IsOf, with_hold}
use Rattle.dr_cells.proofs.Walk.{Mark, strip_told, opens}
use Rattle.dr_cells.specs.contracts.cells.Cells as Cells
use Rattle.dr_cells.specs.contracts.token.Token as Token
use Rattle.dr_cells.specs.contracts.token.Token.get_mut.{ended, clauses}
use Rattle.dr_cells.specs.contracts.token.Token.get_mut.Key.{name as #self}
use Rattle.dr_cells.proofs.token.Token.get_mut.Statement.{statement}
use Rattle.dr_cells.proofs.token.Token.get_mut.Code as code
use base.Fml.{GName}
use denote.Signature.{mut_ref_to}
use denote.Triple.Walked.{Goes-spent_ref}

-- with any w in its cell, a token whose cell was lent is whole again
module _ (R : RattleType) (t : (Token.the_row R).Denot) (vs : List Val) (b o b' o' i : ℕ) (s : Ptr) where
  abbrev Rest : Fml
  Rest = fsep ((Mark R).own_val (tt, tt) vs) (cell_at full_share (Token.the_row R).mir vs b o)

  back : {M : Type 1} {𝓤 : Ura M} (𝓛 : Logic 𝓤) → t.strip ≡ block_ptr b' o' → t.cell ≡ i → (t.cell + 1) * type_size R < 2 ^ 63
      → (w : R.Denot) → ent 𝓤 (sep 𝓤 (sem 𝓛 ((mem R).own_at w b' (i * type_size R + o'))) (sem 𝓛 Rest)) (sem 𝓛 ((mem (Token.the_row R)).own_at (with_hold t (whole w)) b o))
  unfolding part_of
  back 𝓛 es ei reaches w = qed 𝓛 (‵ (part_at R full_share w b' (i * type_size R + o')) ∷ ‵ Rest ∷ []) ∵
      rewrite ! 0 (λ (k : ℕ). ‵ (part_at R full_share w b' (k * type_size R + o'))) (sym ei) refl $
      rewrite ! 0 (λ (q : Ptr). ‵ (lies_at R full_share (ptr_add R t.cell q) w)) (sym es) refl $
      flt_i ! ((t.cell + 1) * type_size R) (2 ^ 63) reaches $ fjoin ! $ move ! (1 ∷ []) $ fsplit ! $ move ! (0 ∷ 2 ∷ []) $ fjoin ! $
      move ! (1 ∷ 0 ∷ []) $ fjoin ! $
      fpack ! (List Val) (λ us. fsep (cell_at full_share (Token.the_row R).mir us b o) ((Token.the_row R).own_val (with_hold t (whole w)) us)) vs $ done !

pub get_mut_spec : {M : Type 1} → statement M
get_mut_spec 𝓤 𝓛 𝓜 𝓡 wired X L =
    let H = 𝓛.H in let 𝓣 = tables 𝓤 H 𝓜 𝓡 𝓡.env in let R : RattleType = param 0 X in let En = ended X in let inst = layouts (a_type ∷ []) (X, tt) in
    let fn = inst_fn inst code.function in
    let Row : RattleType = Token.the_row R in let At : RattleType = Cells.the_row R in let c = clauses X 𝓛 𝓜.mem 𝓡.returns in
    let hs : Stays En.signature.params En.kept = (stay_dropped (mut_ref_to (0 ∷ []) tt (plain (λ _. Row))) no, (stay_dropped (plain (λ _. At)) no, (stay_dropped (plain (λ _. usize)) yes, tt))) in
    proved 𝓛 En hs c 𝓜 𝓡 (Goes-spent_ref 𝓛 2 (0 ∷ []) tt (plain (λ _. Row)), (Goes-dropped 𝓛 2 (plain (λ _. At)) no (λ κs x f. refl), (Goes-dropped 𝓛 2 (plain (λ _. usize)) yes (λ κs x f. refl), tt))) (#self inst) fn (code.unfolded 𝓤 H 𝓜 𝓡 wired (X, tt))
    (λ κs. (mut_vals, ((λ s. word s.ptr ∷ []), (uint_vals w64, tt)))) (λ κs. (mut_Tells (named 0) κs.0 Row, ((λ s vs is. strip_told R s.ptr vs is), (uint_Tells w64, tt)))) (λ κs qs bounds a gh are.
    let at : Ptr = a.1.0.ptr in let i : ℕ = a.1.1.0 in let b : ℕ = a.0.ref_ptr.0 in let o : ℕ = a.0.ref_ptr.1 in let γ : GName = a.0.ghost_name in
    let t : Row.Denot = a.0.now in
    let κ : Lft = κs.0 in let μ : Lft = κs.1.0 in let others : Fml = fsep (flft μ qs.1.0) ftrue in
    let y : (walk_of 𝓛 En hs c).Ghost = ((κs, qs, bounds, a, (vptr b o ∷ [], (word at ∷ [], (vint w64 i ∷ [], tt)))), gh) in
    let Post : Val → SProp 𝓤 = (walk_of 𝓛 En hs c).post y in
    let Asked : Type 0 = IsOf at i t × IsWhole t.hold in let size : ℕ = type_size R in let fi : i < 2 ^ 64 = are.1.1.0.1 in
    qed 𝓛 (((‵ (flft κ qs.0) ⊛ ‵ others) ⊛ ‵ (owns (types_at En.signature.params κs) a y.0.4)) ∷ raw (fact 𝓤 (μ ⊑ X.lives)) ∷ raw (fact 𝓤 Asked) ∷ []) ∵
    move ! (2 ∷ []) $ heard ! Asked (λ asked. let is = whole_of t.hold asked.1 in let x : X.Denot = is.0 in
    split ! $ split ! $ move ! (2 ∷ []) $ fsplit ! $ fsplit3 ! $ keep ! (1 ∷ 2 ∷ 4 ∷ 5 ∷ []) $
    enter ! 𝓣.C 𝓣.Λ fn (vptr b o ∷ word at ∷ vint w64 i ∷ []) Post $
    alloc_all ! (λ l. pass_all ! refl ((tt, tt), (word-Good [] at, ((tt, record { fits = fi }), tt))) $ let Ev = env fn.locals l in
    opens ! tt Row b o (λ vs. move ! (1 ∷ []) $ fsplit ! $ move ! (1 ∷ []) $
    rewrite ! 0 (λ (h : Hold X.Denot). ‵ (hold_owns R t.cell (ptr_add R t.cell t.strip) h)) is.1 refl $ fsplit ! $ flt_l ! (λ reaches.
    let small : (i + 1) * size < 2 ^ 63 = subst (λ (n : ℕ). (n + 1) * size < 2 ^ 63) asked.0.1 reaches in
    let size63 : size < 2 ^ 63 = one_below (i + 1) size (2 ^ 63) (omega arith) small in let tiny : size < 2 ^ 64 = omega arith in
    let far63 : i * size < 2 ^ 63 = times_below i (i + 1) size (2 ^ 63) (omega arith) small in let far : i * size < 2 ^ 64 = omega arith in
    -- [the value; the field; the cell; the open borrow, in three entries; the other tokens]
    in_a_block ! t.strip (λ q. lies_at R full_share (ptr_add R t.cell q) x) (id⊢ 𝓤 (never 𝓤)) (λ b' o' e. let there : ℕ = i * size + o' in
    let now = Row.coded.code t in let new : X.Denot → Row.Denot = λ w. with_hold t (whole w) in
    let way = back R t vs b o b' o' i t.strip 𝓛 e asked.0.1 reaches in let rest = sem 𝓛 (Rest R t vs b o b' o' i t.strip) in
    rewrite ! 0 (λ (k : ℕ). ‵ (part_at R full_share x b' (k * size + o'))) asked.0.1 refl $
    take_at ! 2 $ rewrite ! 0 (λ (q : Ptr). ‵ (fat full_share (layout At) (l 2) 0 (word q))) (sym asked.0.0 ∙ e) refl $ give_at ! 2 $ first ! $ blocks ! $
    sets ! (bin ! (get ! refl) (size_lit ! (record { fits = tiny })) (record { fits = far })) refl (tt, record { fits = far }) $
    sets ! (bin ! (get_in ! (fld ! refl (stop !)) (sub ! 0 refl (at_whole !))) (get ! refl) tt) refl (tt, tt) $
    sets_last ! (addr ! (through ! refl (stop !))) refl (tt, tt) $ exec ! 𝓣.C 𝓣.Λ Ev (tail fn.body) (at_ret Ev Post) $
    sets ! (of_opd ! (get ! refl)) refl (tt, tt) $
    move ! (1 ∷ 2 ∷ []) $ fjoin ! $ move ! (2 ∷ 3 ∷ 4 ∷ 1 ∷ 0 ∷ []) $ group ! 5 $
    use1 𝓛 (later (some (λ (δ : GName). raw (Part 𝓛 Row R new (named 0) κ qs.0 b o b' there γ rest way x δ)))) (lends_Part 𝓛 Row R new (named 0) κ qs.0 b o b' there γ rest way now now x) $ await ! tt $ pick ! (λ δ.
    let r : MutBor X.Denot = record { ref_ptr = (b', there); ghost_name = δ; now = x } in
    use1 𝓛 (‵ ((MutRef (named 0) κ R).own_val r (vptr b' there ∷ [])) ⊛ ‵ (flft κ qs.0) ⊛ ‵ (follows Row R γ δ new)) (id⊢ 𝓤 _) $ split3 ! $
    move ! (1 ∷ 3 ∷ []) $ join ! $
    -- [the tokens; the loan; what it ends as]
    use0 𝓛 (raw (fact 𝓤 (t.hold ≡ whole x))) (fact_i 𝓤 (t.hold ≡ whole x) (emp 𝓤) is.1) $ move ! (3 ∷ 0 ∷ []) $ join ! $ nothing ! $ nothing ! $
    fjoin ! $ nothing ! $ fjoin ! $ nothing ! $ fjoin ! $
    returns ! (look_at ! 0 refl) $ free_all ! refl $ keep ! (2 ∷ 0 ∷ 3 ∷ 1 ∷ []) $
    by ! (leaves 𝓛 En hs c y (vptr b' there) r (tt, (tt, (tt, tt))) (tt, (tt, (tt, tt)))))))))))
