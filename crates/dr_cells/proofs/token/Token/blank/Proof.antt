-- `blank` makes a token that owns nothing.
use Rattle.dr_cells.proofs.Walk.{[], ◌∷◌, ◌≡◌, refl, a_type, Val, inst_fn, SProp, emp, RattleType, ftrue, ‵, raw, ◌⊛◌, ◌$◌, ◌∵◌, !, qed, by, keep, use0}
use Rattle.dr_cells.proofs.Walk.{split, fjoin, no_more, and_then, returns, enter, alloc_all, pass_all, free_all, look_at, get, sets, agg, tables, fact}
use Rattle.dr_cells.proofs.Walk.{fact_i, nothing, param, layouts, alive, walk_of, proved, leaves, mark, Mark, made}
use Rattle.dr_cells.specs.Tokens.{no_token}
use Rattle.dr_cells.specs.contracts.token.Token as Token
use Rattle.dr_cells.specs.contracts.token.Token.blank.{ended, clauses}
use Rattle.dr_cells.specs.contracts.token.Token.blank.Key.{name as #self}
use Rattle.dr_cells.proofs.token.Token.blank.Statement.{statement}
use Rattle.dr_cells.proofs.token.Token.blank.Code as code

pub blank_spec : {M : Type 1} → statement M
blank_spec 𝓤 𝓛 𝓜 𝓡 wired X L =
    let H = 𝓛.H in let 𝓣 = tables 𝓤 H 𝓜 𝓡 𝓡.env in let R : RattleType = param 0 X in let En = ended X in let c = clauses X 𝓛 𝓜.mem 𝓡.returns in
    let inst = layouts (a_type ∷ []) (X, tt) in let fn = inst_fn inst code.function in
    let Row : RattleType = Token.the_row R in
    proved 𝓛 En tt c 𝓜 𝓡 tt (#self inst) fn (code.unfolded 𝓤 H 𝓜 𝓡 wired (X, tt)) (λ κs. tt) (λ κs. tt) (λ κs qs bounds a gh are.
    let y : (walk_of 𝓛 En tt c).Ghost = ((κs, qs, bounds, a, tt), gh) in let Post : Val → SProp 𝓤 = (walk_of 𝓛 En tt c).post y in
    let new : Row.Denot = no_token in
    qed 𝓛 ((raw (alive 𝓛 En.signature κs qs) ⊛ ‵ ftrue) ∷ raw ((c κs a).requires gh) ∷ []) ∵ split ! $ keep ! (0 ∷ []) $
    enter ! 𝓣.C 𝓣.Λ fn [] Post $ alloc_all ! (λ l. pass_all ! refl tt $ sets ! (agg ! (no_more !)) refl (tt, tt) $
    sets ! (agg ! (and_then ! (get ! refl) (no_more !))) refl (tt, (tt, tt)) $
    use0 𝓛 (raw (fact 𝓤 (new ≡ no_token))) (fact_i 𝓤 (new ≡ no_token) (emp 𝓤) refl) $ nothing ! $
    use0 𝓛 (‵ ((Mark R).own_val (tt, tt) (mark ∷ []))) (made R 𝓛) $ fjoin ! $ nothing ! $
    returns ! (look_at ! 0 refl) $ free_all ! refl $ keep ! (3 ∷ 0 ∷ 1 ∷ 2 ∷ []) $ by ! (leaves 𝓛 En tt c y mark new tt tt)))
