-- `get` shows the value for as long as the token is borrowed.
use Rattle.dr_cells.proofs.Walk.{◌≡◌, ℕ, ◌+◌, ◌*◌, ◌^◌, ◌<◌, [], ◌∷◌, List, refl, arith, w64, a_type, named, Val, vint, vptr, inst_fn, SProp, emp, Lft}
use Rattle.dr_cells.proofs.Walk.{Fml, fsep, ftrue, flft, sem, ‵, raw, ◌⊛◌, at_ret, ◌$◌, ◌∵◌, !, qed, by, move, keep, drop, use0, use1, split, join, fsplit}
use Rattle.dr_cells.proofs.Walk.{fjoin, rewrite, feq_i, of_opd, returns, enter, alloc_all, pass_all, free_all, look_at, get, get_in, sets, env, tables}
use Rattle.dr_cells.proofs.Walk.{fact, fact_i, ◌⊑◌, yes, no, RattleType, owns, types_at, plain, Ptr, nothing, heard, param, layouts, param_laws, Stays}
use Rattle.dr_cells.proofs.Walk.{stay_dropped, walk_of, Goes-dropped, proved, leaves, full_share, null_ptr, subst}
use base.Fml.{fat}
use base.Logic.{fst∗, never}
use Rattle.std.specs.Prelude.{Some}
use Rattle.core.proofs.ptr.Rows.{times_below, one_below}
use types.Kit.{flt_l}
use types.Run.{stop, fld, addr, bin, size_lit, first, blocks, exec}
use types.ByLocal.{through, sets_last, take_at, give_at}
use types.Part.{sub, whole}
use denote.Builtin.{RefOf, usize}
use denote.Memory.{shared_of}
use denote.Opens.{hide, unhide}
use denote.Param.{layout}
use denote.Plain.{uint_vals, uint_Tells}
use denote.RawPtr.{in_a_block, block_of, count_of}
use denote.Ref.{shr_vals, shr_Tells}
use denote.Struct.Lending.{lent_at}
use Rattle.core.proofs.atomic.Steps.{tail}
use Rattle.core.specs.Mem.{type_size}
use Rattle.core.specs.Ptr.{ptr_add}
use Rattle.std_alloc.proofs.RcSteps.{word, word-Good}
use Rattle.dr_cells.specs.Hold.{held, IsHeld}
use Rattle.dr_cells.specs.Owned.{fits}
use Rattle.dr_cells.specs.Tokens.{IsOf}
use Rattle.dr_cells.proofs.Rights.{shown}
use Rattle.dr_cells.proofs.Walk.{strip_told}
use Rattle.dr_cells.specs.contracts.cells.Cells as Cells
use Rattle.dr_cells.specs.contracts.token.Token as Token
use Rattle.dr_cells.specs.contracts.token.Token.get.{ended, clauses}
use Rattle.dr_cells.specs.contracts.token.Token.get.Key.{name as #self}
use Rattle.dr_cells.proofs.token.Token.get.Statement.{statement}
use Rattle.dr_cells.proofs.token.Token.get.Code as code

pub get_spec : {M : Type 1} → statement M
get_spec 𝓤 𝓛 𝓜 𝓡 wired X L =
    let H = 𝓛.H in let 𝓣 = tables 𝓤 H 𝓜 𝓡 𝓡.env in let R : RattleType = param 0 X in let En = ended X in let inst = layouts (a_type ∷ []) (X, tt) in
    let fn = inst_fn inst code.function in
    let Row : RattleType = Token.the_row R in let At : RattleType = Cells.the_row R in let c = clauses X 𝓛 𝓜.mem 𝓡.returns in
    let token = RefOf (0 ∷ []) tt (plain (λ _. Row)) (λ _. tt) in
    let hs : Stays En.signature.params En.kept = (stay_dropped token yes, (stay_dropped (plain (λ _. At)) no, (stay_dropped (plain (λ _. usize)) yes, tt))) in
    proved 𝓛 En hs c 𝓜 𝓡 (Goes-dropped 𝓛 2 token yes (λ κs x f. refl), (Goes-dropped 𝓛 2 (plain (λ _. At)) no (λ κs x f. refl), (Goes-dropped 𝓛 2 (plain (λ _. usize)) yes (λ κs x f. refl), tt))) (#self inst) fn (code.unfolded 𝓤 H 𝓜 𝓡 wired (X, tt))
    (λ κs. (shr_vals, ((λ s. word s.ptr ∷ []), (uint_vals w64, tt)))) (λ κs. (shr_Tells (named 0) κs.0 Row, ((λ s vs is. strip_told R s.ptr vs is), (uint_Tells w64, tt)))) (λ κs qs bounds a gh are.
    let at : Ptr = a.1.0.ptr in let i : ℕ = a.1.1.0 in let b : ℕ = a.0.ref_ptr.0 in let o : ℕ = a.0.ref_ptr.1 in let t : Row.Denot = a.0.now in
    let κ : Lft = κs.0 in let μ : Lft = κs.1.0 in let others : Fml = fsep (flft μ qs.1.0) ftrue in
    let y : (walk_of 𝓛 En hs c).Ghost = ((κs, qs, bounds, a, (vptr b o ∷ [], (word at ∷ [], (vint w64 i ∷ [], tt)))), gh) in
    let Post : Val → SProp 𝓤 = (walk_of 𝓛 En hs c).post y in
    let Asked : Type 0 = IsOf at i t × IsHeld t.hold in let size : ℕ = type_size R in let fi : i < 2 ^ 64 = are.1.1.0.1 in
    qed 𝓛 (((‵ (flft κ qs.0) ⊛ ‵ others) ⊛ ‵ (owns (types_at En.signature.params κs) a y.0.4)) ∷ raw (fact 𝓤 (μ ⊑ X.lives)) ∷ raw (fact 𝓤 Asked) ∷ []) ∵
    move ! (2 ∷ []) $ heard ! Asked (λ asked. let seen = shown R t.cell (ptr_add R t.cell t.strip) 𝓛 (param_laws 0 X L).shr_laws κ t.hold asked.1 in
    let x : X.Denot = seen.0 in
    split ! $ split ! $ move ! (2 ∷ []) $ fsplit ! $ fsplit ! $ keep ! (1 ∷ 3 ∷ 4 ∷ []) $
    enter ! 𝓣.C 𝓣.Λ fn (vptr b o ∷ word at ∷ vint w64 i ∷ []) Post $
    alloc_all ! (λ l. pass_all ! refl ((tt, tt), (word-Good [] at, ((tt, record { fits = fi }), tt))) $ let Ev = env fn.locals l in
    unhide ! $ fsplit ! $ drop ! $ use1 𝓛 (‵ (fits R t.cell) ⊛ ‵ (lent_at R (ptr_add R t.cell t.strip) x κ)) seen.2 $ split ! $ flt_l ! (λ reaches.
    let small : (i + 1) * size < 2 ^ 63 = subst (λ (n : ℕ). (n + 1) * size < 2 ^ 63) asked.0.1 reaches in
    let size63 : size < 2 ^ 63 = one_below (i + 1) size (2 ^ 63) (omega arith) small in let tiny : size < 2 ^ 64 = omega arith in
    let far63 : i * size < 2 ^ 63 = times_below i (i + 1) size (2 ^ 63) (omega arith) small in let far : i * size < 2 ^ 64 = omega arith in
    rewrite ! 0 (λ (k : ℕ × Ptr). ‵ (lent_at R (ptr_add R k.0 k.1) x κ)) (λ j. (asked.0.1 j, asked.0.0 j)) refl $
    in_a_block ! at (λ q. lent_at R (ptr_add R i q) x κ) (fst∗ 𝓤 (never 𝓤) (sem 𝓛 (shared_of R x (block_of null_ptr) (count_of null_ptr) κ))) (λ b' o' e. let there : Val = vptr b' (i * size + o') in
    fsplit ! $ drop ! $ take_at ! 2 $ rewrite ! 0 (λ (q : Ptr). ‵ (fat full_share (layout At) (l 2) 0 (word q))) e refl $ give_at ! 2 $ first ! $ blocks ! $
    sets ! (bin ! (get ! refl) (size_lit ! (record { fits = tiny })) (record { fits = far })) refl (tt, record { fits = far }) $
    sets ! (bin ! (get_in ! (fld ! refl (stop !)) (sub ! 0 refl (whole !))) (get ! refl) tt) refl (tt, tt) $ hide ! $
    sets_last ! (addr ! (through ! refl (stop !))) refl (tt, tt) $ exec ! 𝓣.C 𝓣.Λ Ev (tail fn.body) (at_ret Ev Post) $
    sets ! (of_opd ! (get ! refl)) refl (tt, tt) $
    feq_i ! (List Val) (there ∷ []) (there ∷ []) refl $ fjoin ! $ move ! (1 ∷ 2 ∷ []) $ join ! $
    use0 𝓛 (raw (fact 𝓤 (held t.hold ≡ Some x))) (fact_i 𝓤 (held t.hold ≡ Some x) (emp 𝓤) seen.1) $
    nothing ! $ nothing ! $ fjoin ! $ nothing ! $ fjoin ! $ nothing ! $ fjoin ! $
    returns ! (look_at ! 0 refl) $ free_all ! refl $ keep ! (2 ∷ 0 ∷ 3 ∷ 1 ∷ []) $
    by ! (leaves 𝓛 En hs c y there (record { ref_ptr = (b', i * size + o'); now = x }) (tt, (tt, (tt, tt))) (tt, (tt, (tt, tt)))))))))
