-- A row of all cells is the places of a full row of slots.
use Rattle.dr_cells.proofs.Walk.{◌≡◌, ℕ, ◌+◌, ◌*◌, ◌^◌, ◌<◌, List, [], ◌∷◌, length, sym, refl, ap, ◌∙◌, subst, arith, w64, a_type, Val, vint, inst_fn}
use Rattle.dr_cells.proofs.Walk.{SProp, emp, Lft, Share, ftrue, flft, ‵, raw, ◌⊛◌, some, later, at_ret, ◌$◌, ◌∵◌, !, qed, by, move, keep, split, join}
use Rattle.dr_cells.proofs.Walk.{fsplit, fjoin, pick, await, rewrite, use0, use1, use2, of_opd, no_more, and_then, returns, enter, alloc_all, pass_all}
use Rattle.dr_cells.proofs.Walk.{free_all, look_at, get, get_in, sets, env, tables, yes, no, RattleType, owns, types_at, plain, Ptr, ptr_val, nothing}
use Rattle.dr_cells.proofs.Walk.{param, layouts, Stays, stay_dropped, walk_of, Goes-dropped, fact, fact_i, heard, ◌⊑◌, proved, leaves, mark, row_told}
use Rattle.dr_cells.proofs.Walk.{strip_told}
use mir.Val.{WT}
use base.Logic.{via, guard_i}
use contract.Monad.{fact_use}
use types.Kit.{given, learn}
use types.Run.{stop, fld, first, blocks, exec}
use types.ByLocal.{is, lands_last}
use types.Part.{sub, whole}
use types.SemTy.{cells}
use denote.Builtin.{usize}
use denote.Index.{whole_out}
use denote.Memory.{mem}
use denote.Plain.{uint_vals, uint_Tells}
use denote.RawPtr.{in_a_block}
use denote.Triple.Call.{calls_at_last}
use mathlib.Core.Bool.{Bool, true, false}
use lib.ListN.{replicate, length-replicate, get_or, get_or-replicate}
use native.Mathlib.Nat.{zero-mul}
use Rattle.core.proofs.atomic.Steps.{tail}
use Rattle.core.specs.Mem.{type_size}
use Rattle.core.specs.Mem.Slots.{slots_items, slots_ptr, slots_len, IsFull}
use Rattle.core.proofs.mem.Param.{El}
use Rattle.core.proofs.slots.Opens.{row_val}
use Rattle.core.proofs.slots.Places.{of_row}
use Rattle.core.proofs.slots.Slots.from_raw_parts.Met as callee
use Rattle.atomic_table.proofs.Calls.{fm}
use Rattle.atomic_table.proofs.Raw.{Row, all as places, row_Typed, From, at_from, Made, from_goes, from_gives}
use Rattle.std_alloc.proofs.RcSteps.{word, word-Good}
use Rattle.dr_cells.specs.Owned.{row_owns}
use Rattle.dr_cells.proofs.Rows.{row_lies, row_fits, of_row as of_cells}
use Rattle.dr_cells.specs.contracts.cells.Cells as Cells
use Rattle.dr_cells.specs.contracts.row.Row as In
use Rattle.dr_cells.specs.contracts.row.Row.into_slots.{ended, clauses}
use Rattle.dr_cells.specs.contracts.row.Row.into_slots.Key.{name as #self}
use Rattle.dr_cells.proofs.row.Row.into_slots.Statement.{statement}
use Rattle.dr_cells.proofs.row.Row.into_slots.Code as code

pub into_slots_spec : {M : Type 1} → statement M
into_slots_spec 𝓤 𝓛 𝓜 𝓡 wired T L =
    let H = 𝓛.H in let 𝓣 = tables 𝓤 H 𝓜 𝓡 𝓡.env in let R : RattleType = param 0 T in let E : El = record { row = T; laws = L } in let En = ended T in
    let inst = layouts (a_type ∷ []) (T, tt) in let fn = inst_fn inst code.function in let c = clauses T 𝓛 𝓜.mem 𝓡.returns in
    let Rw : RattleType = In.the_row R in let At : RattleType = Cells.the_row R in
    let met = callee.met 𝓤 𝓛 𝓜 𝓡 (code.calls-core::slots::Slots::from_raw_parts 𝓡.env wired) T L in
    let hs : Stays En.signature.params En.kept = (stay_dropped (plain (λ _. Rw)) no, (stay_dropped (plain (λ _. At)) no, (stay_dropped (plain (λ _. usize)) yes, tt))) in
    proved 𝓛 En hs c 𝓜 𝓡 (Goes-dropped 𝓛 1 (plain (λ _. Rw)) no (λ κs x f. refl), (Goes-dropped 𝓛 1 (plain (λ _. At)) no (λ κs x f. refl), (Goes-dropped 𝓛 1 (plain (λ _. usize)) yes (λ κs x f. refl), tt))) (#self inst) fn (code.unfolded 𝓤 H 𝓜 𝓡 wired (T, tt))
    (λ κs. ((λ x. mark ∷ []), ((λ s. word s.ptr ∷ []), (uint_vals w64, tt)))) (λ κs. ((λ x vs so. row_told R vs so.0), ((λ s vs so. strip_told R s.ptr vs so), (uint_Tells w64, tt)))) (λ κs qs bounds a gh are.
    let κ : Lft = κs.0 in let q : Share = qs.0 in let d : Rw.Denot = a.0 in let p : Ptr = a.1.0.ptr in let xs : List T.Denot = d.items in
    let k : ℕ = a.1.1.0 in let fk : k < 2 ^ 64 = are.1.1.0.1 in let size : ℕ = type_size R in
    let fs : List Bool = replicate (length xs) true in
    let z : (walk_of 𝓛 En hs c).Ghost = ((κs, qs, bounds, a, (mark ∷ [], (word p ∷ [], (vint w64 k ∷ [], tt)))), gh) in
    let Post : Val → SProp 𝓤 = (walk_of 𝓛 En hs c).post z in
    let Asked : Type 0 = (d.strip ≡ p) × (d.from ≡ 0) × (k ≡ length xs) × (0 < k) in
    qed 𝓛 (((‵ (flft κ q) ⊛ ‵ ftrue) ⊛ ‵ (owns (types_at En.signature.params κs) a z.0.4)) ∷ raw (fact 𝓤 (κ ⊑ T.lives)) ∷ raw (fact 𝓤 Asked) ∷ []) ∵
    move ! (1 ∷ 2 ∷ []) $ heard ! (κ ⊑ T.lives) (λ le. heard ! Asked (λ asked. let lx : k ≡ length xs = asked.2 in
    let some_cell : 0 < length xs = omega (arith, asked.3) in
    split ! $ split ! $ move ! (2 ∷ []) $ fsplit ! $ fsplit ! $ keep ! (1 ∷ 3 ∷ []) $
    rewrite ! 0 (λ (j : Ptr × ℕ). ‵ (row_owns R j.0 j.1 xs)) (λ j. (asked.0 j, asked.1 j)) refl $
    let Fits : Type 0 = (0 + length xs) * size < 2 ^ 63 in
    use1 𝓛 (given Fits (‵ (row_owns R p 0 xs))) (fact_use 𝓤 Fits (row_fits 𝓛 R p 0 xs some_cell) (guard_i 𝓤 Fits (types.Logic.sem 𝓛 (row_owns R p 0 xs)))) $ learn ! (λ fits.
    in_a_block ! p (λ s. row_owns R s 0 xs) (row_lies 𝓛 R 0 xs some_cell) (λ b o at.
    use1 𝓛 (‵ (cells (mem R) xs b o)) (of_cells 𝓛 R b o 0 xs o (omega (arith, zero-mul size))) $
    use1 𝓛 (‵ (places E b o xs fs)) (via 𝓤 _ (whole_out 𝓛 R xs b o) (of_row E 𝓛 b xs o)) $
    let lf : k ≡ length fs = lx ∙ sym (length-replicate (length xs) true) in let words : WT (row_val b o k) = (tt, (record { fits = fk }, tt)) in
    enter ! 𝓣.C 𝓣.Λ fn (mark ∷ word p ∷ vint w64 k ∷ []) Post $
    alloc_all ! (λ l. pass_all ! refl ((tt, (tt, tt)), (word-Good [] p, ((tt, record { fits = fk }), tt))) $ let Ev = env fn.locals l in
    let y = at_from E 𝓛 𝓜.mem 𝓡.returns κ q b o k xs fs in
    sets ! (is ! (of_opd ! (get_in ! (fld ! refl (stop !)) (sub ! 0 refl (whole !)))) (ap ptr_val at)) refl (tt, tt) $ first ! $ blocks ! $
    use2 𝓛 (raw ((From E 𝓛 𝓜.mem 𝓡.returns).pre y)) (from_goes E 𝓛 𝓜.mem 𝓡.returns κ q b o k xs fs le lx lf fk (subst (λ (n : ℕ). n * size < 2 ^ 63) (omega arith) fits)) $
    calls_at_last ! (fm 𝓛 𝓜 𝓡) (From E 𝓛 𝓜.mem 𝓡.returns) met y (and_then ! (get ! refl) (and_then ! (get ! refl) (no_more !))) (λ v.
    use1 𝓛 (later (some (λ (r : (Row E).Denot). given ((v ≡ row_val b o k) × Made E 𝓛 𝓜.mem 𝓡.returns κ q b o k xs fs r) (‵ ((Row E).own_val r (row_val b o k ∷ [])) ⊛ ‵ (flft κ q)))))
    (from_gives E 𝓛 𝓜.mem 𝓡.returns κ q b o k xs fs v) $ await ! tt $ pick ! (λ r. learn ! (λ got. split ! $ let made = got.1 in
    let full : IsFull r = λ j low high. let near : j < length xs = subst (λ (n : ℕ). j < n) (made.1 ∙ lx) high in
    ap (λ (gs : List Bool). get_or gs j false) made.3 ∙ get_or-replicate (length xs) j true false near in
    let Told : Type 0 = (slots_ptr r ≡ p) × (slots_len r ≡ k) × (slots_items r ≡ xs) × IsFull r in
    lands_last ! refl (row_Typed E v b o k got.0 fk) $ exec ! 𝓣.C 𝓣.Λ Ev (tail (tail fn.body)) (at_ret Ev Post) $
    sets ! (is ! (of_opd ! (get ! refl)) got.0) refl (tt, words) $
    nothing ! $ move ! (2 ∷ 0 ∷ []) $ join ! $ use0 𝓛 (raw (fact 𝓤 Told)) (fact_i 𝓤 Told (emp 𝓤) (made.0 ∙ sym at, made.1, made.2, full)) $ nothing ! $
    nothing ! $ fjoin ! $ nothing ! $ fjoin ! $ nothing ! $ fjoin ! $
    returns ! (look_at ! 0 refl) $ free_all ! refl $ keep ! (2 ∷ 0 ∷ 3 ∷ 1 ∷ []) $
    by ! (leaves 𝓛 En hs c z (row_val b o k) r (tt, (tt, (tt, tt))) (tt, (tt, (tt, tt)))))))))))))
