-- A sender is made of its parts.
use Rattle.std.proofs.Common.{◌≡◌, List, [], ◌∷◌, refl}
use mir.Syntax.{a_type}
use mir.Val.{Val, vstruct, of_list}
use mir.MapTy.{inst_fn}
use base.Logic.{SProp, emp}
use base.Fml.{ftrue, fsep}
use prog.Wp.{WpFn}
use contract.Monad.{fact, fact_i}
use contract.Running.{tables}
use types.Kit.{‵, raw, ◌⊛◌, given, prop, ◌$◌, ◌∵◌, !, qed, by, move, keep, drop, use0, split, rewrite, regoal, fjoin, fpack, feq_i, learn}
use types.Part.{agg}
use types.Run.{of_opd, no_more, and_then, returns, enter}
use types.ByLocal.{alloc_all, pass_all, free_all, look_at, get, sets}
use denote.Laws.{Lawfuls}
use denote.RattleType.{RattleType, owns, flat, Valss}
use denote.Param.{param, layout, layouts}
use denote.Param.Laws.{param_laws}
use denote.Signature.{types_at}
use denote.Steps.{nothing}
use denote.Struct.Owning.{shape, to}
use denote.Struct.Struct.{as_fields, within}
use denote.Triple.Entry.{alive}
use denote.Triple.Walked.{walk_of}
use Rattle.std.proofs.raw_atomic.Walks.{proved_at}
use denote.Builtin.{u64}
use denote.Struct.Laws.{u64-laws}
use Rattle.std.specs.contracts.alloc.Global as heap
use Rattle.std.proofs.alloc.Global.TheLaws as heap_laws
use Rattle.std.specs.contracts.impls.GlobalAllocator.TheImpl.{ghosts}
use Rattle.std.specs.contracts.vec.Vec as vec
use Rattle.std.proofs.vec.Vec.TheLaws as vec_laws
use Rattle.dr_cells.specs.contracts.token.Token as token
use Rattle.dr_cells.proofs.token.Token.TheLaws as token_laws
use Rattle.dr_plain_senders.specs.contracts.laws.sender.SenderStation as station
use Rattle.dr_plain_senders.proofs.laws.sender.SenderStation.TheLaws as station_laws
use Rattle.dr_plain_senders.specs.contracts.owned.Owned as owned
use Rattle.dr_plain_senders.proofs.owned.Owned.TheLaws as owned_laws
use Rattle.dr_plain_senders.specs.Inside.Fits.{SenderFits}
use Rattle.dr_plain_senders.specs.Inside.Views.{sender_end}
use Rattle.dr_plain_senders.specs.contracts.sender.Sender as sender
use Rattle.dr_plain_senders.specs.contracts.sender.Sender.TheInside as inside
use Rattle.dr_plain_senders.proofs.Moved.{moved, all_go, made, Lone, ones, each}
use Rattle.dr_plain_senders.specs.contracts.sender.Sender.of.{ended, clauses}
use Rattle.dr_plain_senders.specs.contracts.sender.Sender.of.Key.{name as #self}
use Rattle.dr_plain_senders.proofs.sender.Sender.of.Statement.{statement}
use Rattle.dr_plain_senders.proofs.sender.Sender.of.Code as code

pub of_spec : {M : Type 1} → statement M
of_spec 𝓤 𝓛 𝓜 𝓡 wired T L =
    let H = 𝓛.H in let 𝓣 = tables 𝓤 H 𝓜 𝓡 𝓡.env in let R : RattleType = param 0 T in let LR = param_laws 0 T L in let En = ended T in
    let c = clauses T 𝓛 𝓜.mem 𝓡.returns in let inst = layouts (a_type ∷ []) (T, tt) in let fn = inst_fn inst code.function in
    let S = station.the_row R in let Ow = owned.the_row in
    let V = vec.the_row (token.the_row R) heap.the_row ghosts in
    let LV = vec_laws.the_row_laws (token.the_row R) heap.the_row ghosts (token_laws.the_row_laws R LR) heap_laws.the_row_laws in
    let O = inside.the_type R in let ss = En.signature.params in let ks = En.kept in let hs = moved ss ks in
    proved_at 𝓛 En hs c 𝓜 𝓡 (all_go 𝓛 ss ks (λ κs x f. tt, (λ κs x f. tt, (λ κs x f. tt, (λ κs x f. tt, tt)))))
    (#self inst) fn (code.unfolded 𝓤 H 𝓜 𝓡 wired (T, tt)) (λ z are.
    let κs = z.0.0 in let a = z.0.3 in let Rs = types_at ss κs in let Post : Val → SProp 𝓤 = (walk_of 𝓛 En hs c).post z in
    let lone : Lone Rs = ((layout S, refl), ((layout Ow, refl), ((layout u64, refl), ((layout V, refl), tt)))) in
    let laws : Lawfuls 𝓛 Rs = ((station_laws.the_row_laws R LR).lawful 𝓛, (owned_laws.the_row_laws.lawful 𝓛, (u64-laws.lawful 𝓛, (LV.lawful 𝓛, tt)))) in
    let got = ones 𝓛 Rs lone laws a z.0.4 are in let good = got.2 in let vss = each Rs got.0 in let ws = flat Rs vss in let v : Val = vstruct (of_list ws) in
    let d : (inside.the_row R).Denot = record { station = a.0; owned = a.1.0; end = a.1.1.0; tokens = a.1.1.1.0 } in
    let r : (sender.the_row R).Denot = sender_end a.0 a.1.0 a.1.1.1.0.items in let Told : Type 0 = r ≡ r in
    let Asked : Type 0 = SenderFits a.0 a.1.0 a.1.1.0 a.1.1.1.0.items in
    qed 𝓛 ((raw (alive 𝓛 En.signature κs z.0.1) ⊛ ‵ (owns Rs a z.0.4)) ∷ raw (fact 𝓤 _) ∷ given Asked (‵ ftrue) ∷ []) ∵
    keep ! (2 ∷ 0 ∷ []) $ learn ! (λ asked. drop ! $ split ! $ move ! (1 ∷ []) $
    rewrite ! 0 (λ (us : Valss Rs). ‵ (owns Rs a us)) got.1 refl $
    regoal ! (λ (us : Valss Rs). prop (WpFn 𝓤 H 𝓣.C 𝓣.Λ fn (flat Rs us) Post)) got.1 refl $
    enter ! 𝓣.C 𝓣.Λ fn ws Post $ alloc_all ! (λ l. pass_all ! refl good $
    sets ! (of_opd ! (get ! refl)) refl good.0 $ sets ! (of_opd ! (get ! refl)) refl good.1.0 $ sets ! (of_opd ! (get ! refl)) refl good.1.1.1.0 $
    sets ! (agg ! (and_then ! (get ! refl) (and_then ! (get ! refl) (and_then ! (get ! refl) (and_then ! (get ! refl) (no_more !)))))) refl
    (as_fields (layout S ∷ layout Ow ∷ layout u64 ∷ layout V ∷ []) ws good) $
    returns ! (look_at ! 0 refl) $ free_all ! refl $
    -- [what the parts own; the call's own]
    feq_i ! (List Val) (v ∷ []) (v ∷ []) refl $ fjoin ! $ fpack ! (Valss Rs) (within (shape O) (to O d) (v ∷ [])) vss $
    nothing ! $ move ! (1 ∷ 0 ∷ []) $ fjoin ! $ nothing ! $ move ! (1 ∷ 0 ∷ []) $ fjoin ! $
    fpack ! ((b : (inside.the_row R).Denot) × ((sender.the_view R b ≡ r) × sender.the_invariant R b))
    (λ x. fsep ((inside.the_row R).own_val x.0 (v ∷ [])) ftrue) (d, (refl, asked)) $
    use0 𝓛 (raw (fact 𝓤 Told)) (fact_i 𝓤 Told (emp 𝓤) refl) $ move ! (2 ∷ 1 ∷ 0 ∷ []) $ by ! (made 𝓛 En c z v r))))
