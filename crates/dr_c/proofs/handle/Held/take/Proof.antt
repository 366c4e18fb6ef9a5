-- `take` hands the box out, and leaves nothing.
use Rattle.std.proofs.Common.{◌≡◌, List, [], ◌∷◌, refl, sym, ap, ◌∙◌}
use Rattle.std.specs.Prelude.{Option, None, Some, IsSome}
use Rattle.std.proofs.lemmas.Bool.{false≢true}
use mir.Syntax.{named}
use mir.Val.{Val, vptr}
use mir.Raw.{raw as bare}
use base.Fraction.{full_share}
use base.Logic.{never, fst∗}
use base.Fml.{ftrue, flft}
use types.Logic.{sem}
use types.Kit.{‵, raw, ◌⊛◌, ◌$◌, ◌∵◌, !, qed, done, move, keep, split, join, fsplit, fsplit3, fjoin, rewrite, suffices, frame, group}
use types.Run.{enter, of_opd, load, stop, fld, no_more, and_then, returns}
use types.ByLocal.{alloc_all, pass_all, free_all, look_at, get, through, sets}
use types.Part.{agg, whole, sub, look_in}
use contract.Monad.{fact}
use contract.Running.{tables}
use denote.Exit.{yes}
use denote.Laws.{shows}
use denote.RawPtr.{Ptr, block_ptr, null_ptr, in_a_block}
use denote.Ref.{MutRef, mut_vals, mut_Tells}
use denote.Signature.{plain}
use denote.Memory.{lone, cell_at}
use denote.Steps.{nothing, opens, closes, peeks, heard}
use denote.Triple.Walked.{Stays, walk_of, stay_ref, stay_dropped, Goes-ref, Goes-dropped, ends_at}
use Rattle.std.proofs.raw_atomic.Walks.{proved}
use Rattle.core.proofs.mem.Facts.{says_two}
use Rattle.std_alloc.specs.Box.Ownership.{box_owns}
use Rattle.std_heap.specs.contracts.Global.{the_row as Z}
use Rattle.std_heap.specs.contracts.GlobalAllocator.TheImpl.{ghosts}
use Rattle.std_heap.proofs.Global.TheLaws as zl
use Rattle.dr_c.specs.Handles.{held}
use Rattle.dr_c.proofs.Values.{both, loose_in}
use Rattle.dr_c.specs.contracts.end.End.{the_row as I}
use Rattle.dr_c.specs.contracts.handle.Held.take as f
use Rattle.dr_c.proofs.handle.Held.take.Statement.{statement}
use Rattle.dr_c.proofs.handle.Held.take.Code as code
use Rattle.dr_c.specs.contracts.handle.Held.{the_row as R}
use Rattle.dr_c.proofs.handle.Held.TheLaws.{lowers}

abbrev stayed : Stays f.ended.signature.params f.ended.kept
stayed = (stay_ref (0 ∷ []) tt (plain (λ _. R)), (stay_dropped (plain (λ _. Z)) yes, tt))

some_of : {A : Type 0} (v : Option A) → IsSome v → (x : A) × (v ≡ Some x)
some_of None s = absurd (false≢true s)
some_of (Some x) s = (x, refl)

pub take_spec : {M : Type 1} → statement M
take_spec 𝓤 𝓛 𝓜 𝓡 wired =
    let c = f.clauses 𝓛 𝓜.mem 𝓡.returns in let W = walk_of 𝓛 f.ended stayed c in let 𝓣 = tables 𝓤 𝓛.H 𝓜 𝓡 𝓡.env in
    proved 𝓛 f.ended stayed c 𝓜 𝓡 (Goes-ref 𝓛 1 0 tt (plain (λ _. R)), (Goes-dropped 𝓛 1 (plain (λ _. Z)) yes (λ κs x w. refl), tt))
    f.Key.name code.function (code.unfolded 𝓤 𝓛.H 𝓜 𝓡 wired)
    (λ κs. (mut_vals, ((λ d. zl.lowers.lowered d ∷ []), tt))) (λ κs. (mut_Tells (named 0) κs.0 R, (zl.lowers.val_is, tt))) (λ κs qs bounds a g are.
    let b = a.0.ref_ptr.0 in let o = a.0.ref_ptr.1 in let h = a.0.now in let vs = mut_vals a.0 in let d = a.1.0 in let w = zl.lowers.lowered d in
    let y : W.Ghost = ((κs, qs, bounds, a, (vs, (w ∷ [], tt))), g) in
    qed 𝓛 (((‵ (flft κs.0 qs.0) ⊛ ‵ ftrue) ⊛ ‵ ((MutRef (named 0) κs.0 R).own_val a.0 vs) ⊛ ‵ (Z.own_val d (w ∷ [])) ⊛ ‵ ftrue)
    ∷ raw (fact 𝓤 (IsSome h.value)) ∷ []) ∵
    move ! (1 ∷ []) $ heard ! _ (λ has. let it = some_of h.value has in let x = it.0 in
    split ! $ split ! $ move ! (2 ∷ []) $ split ! $ move ! (1 ∷ []) $ split ! $ keep ! (2 ∷ 3 ∷ 0 ∷ []) $
    enter ! _ _ _ _ _ $ alloc_all ! (λ l. pass_all ! refl ((tt, tt), ((tt, ((tt, tt), tt)), tt)) $
    fsplit3 ! $ move ! (1 ∷ 2 ∷ 3 ∷ []) $ opens ! tt R b o (λ us.
    move ! (1 ∷ []) $ peeks ! R _ (shows 𝓛 R) h us (λ is. fsplit ! $ move ! (1 ∷ []) $
    rewrite ! 0 (λ (v : Option I.Denot). ‵ (held (ghosts.dealloc_token h.heap) I h.at v)) it.1 refl $
    in_a_block ! h.at (λ p. box_owns (ghosts.dealloc_token h.heap) I p x)
    (fst∗ 𝓤 (never 𝓤) (sem 𝓛 (ghosts.dealloc_token h.heap (bare (lone I.mir)) null_ptr))) (λ b' o' e.
    let word = lowers.val_is h us is ∙ ap (λ (p : Ptr). lowers.lowered (record h { at = p }) ∷ []) e in
    let Cell = λ (ws : List Val). ‵ (cell_at full_share R.mir ws b o) in
    rewrite ! 2 Cell word refl $
    -- [the box; what the fields own; the cell; the open borrow, in three entries; the first part; the allocator]
    sets ! (of_opd ! (load ! (through ! refl (fld ! refl (stop !))) (look_in ! 2 (sub ! 0 refl (whole !))))) refl (tt, tt) $
    sets ! (of_opd ! (get ! refl)) refl (tt, tt) $
    sets ! (agg ! (and_then ! (get ! refl) (and_then ! (get ! refl) (no_more !)))) refl (tt, (tt, (((tt, tt), tt), tt))) $
    move ! (0 ∷ 7 ∷ []) $ loose_in I Z zl.the_row_laws ghosts ! b' o' w d x $
    nothing ! $ move ! (2 ∷ 0 ∷ []) $ fjoin ! $ rewrite ! 2 Cell (sym word) refl $
    move ! (2 ∷ 0 ∷ 3 ∷ 4 ∷ 5 ∷ []) $ closes ! tt R (record h { value = None }) us b o $
    -- [two parts of self; the token; the result; self's first part]
    returns ! (look_at ! 0 refl) $ free_all ! refl $ move ! (4 ∷ []) $
    suffices ! _ (ends_at 𝓛 f.ended stayed c y (both (vptr b' o') w)
    (record { at = block_ptr b' o'; alloc = d; value = x }) (record h { value = None }, (tt, tt)) (tt, (tt, tt))) $ says_two ! (it.1, refl) $
    group ! 3 $ nothing ! $ nothing ! $ join ! $ move ! (1 ∷ 0 ∷ []) $ join ! $ nothing ! $ move ! (2 ∷ 0 ∷ []) $ join ! $ frame ! $ frame ! $ done !))))))
