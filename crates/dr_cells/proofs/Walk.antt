-- The names of the logic that the walks of this crate use, and a token's one machine value. Assumes `Logic`.
pub use Rattle.std.proofs.Common.{◌≡◌, ℕ, ◌+◌, ◌-◌, ◌*◌, ◌^◌, ◌<◌, ◌≤◌, List, [], ◌∷◌, ◌++◌, sym, refl, ap, ◌∙◌, subst, arith, w64, length}
pub use seplogic.Ra.Ura.{Ura}
pub use mir.Syntax.{a_type, named}
pub use mir.Val.{Val, vunit, vint, vptr, vstruct, vcons, vnil, of_list}
pub use mir.MapTy.{inst_fn}
pub use base.Fraction.{full_share}
pub use base.Logic.{SProp, ent, sep, emp, id⊢}
pub use base.Fml.{Lft, Share, Fml, ftrue, fsep, flft}
pub use types.Logic.{Logic, sem}
pub use types.Kit.{Item, ‵, raw, ◌⊛◌, some, later, at_ret, ◌$◌, ◌∵◌, !, qed, by, move, keep, drop, use0, use1, use2, split, join, fsplit, fsplit3, fjoin}
pub use types.Kit.{fjoin3, fpick, pick, await, rewrite, feq_i, suffices, done}
pub use types.Run.{unit_lit, of_opd, no_more, and_then, returns, enter}
pub use types.ByLocal.{alloc_all, pass_all, free_all, look_at, get, get_in, sets, env}
pub use types.Part.{agg}
pub use contract.Running.{tables}
pub use contract.Monad.{fact, fact_i}
pub use contract.BorrowLft.{◌⊑◌}
pub use denote.Exit.{yes, no}
pub use denote.RattleType.{RattleType, owns}
pub use denote.Signature.{types_at, plain}
pub use denote.RawPtr.{Ptr, block_ptr, null_ptr, ptr_val}
pub use denote.Steps.{nothing, peeks, heard, opens, closes}
pub use denote.Laws.{Is, shows}
pub use denote.Param.{param, layouts}
pub use denote.Param.Laws.{param_laws}
pub use denote.Ref.{mut_vals, mut_Tells}
pub use denote.Triple.Entry.{alive}
pub use denote.Triple.Walked.{Stays, stay_dropped, stay_ref, walk_of, Goes-dropped, Goes-ref}
pub use Rattle.std.proofs.raw_atomic.Walks.{proved, proved_at, leaves}
use denote.Shadow.{makes_shadow}
use denote.Struct.Struct.{Struct}
use denote.Struct.Owning.{shape}
use Rattle.std_alloc.proofs.RcSteps.{word}
use Rattle.dr_cells.specs.contracts.cells.Cells as Cells
use Rattle.dr_cells.specs.contracts.row.Row as Row
use Rattle.dr_cells.specs.contracts.token.Token as Token

abbrev pub mark : Val
mark = vstruct (vcons (vstruct vnil) vnil)

module _ (R : RattleType) where
  -- the one field, which takes no bytes
  abbrev pub Mark : RattleType
  Mark = Struct (shape (Token.the_type R))

  pub told : (vs : List Val) → Is Mark (tt, tt) vs → vs ≡ mark ∷ []
  told vs is = is.1.0 ∙ ap (λ (ws : List Val). vstruct (of_list (ws ++ [])) ∷ []) is.1.1.0.1.0

  pub made : {M : Type 1} {𝓤 : Ura M} (𝓛 : Logic 𝓤) → ent 𝓤 (emp 𝓤) (sem 𝓛 (Mark.own_val (tt, tt) (mark ∷ [])))
  made 𝓛 = makes_shadow 𝓛 (Mark.own_val (tt, tt) (mark ∷ [])) (λ vss. (tt, ((λ uss. (tt, tt)), tt))) ((vstruct vnil ∷ [], tt), (refl, ((tt, (refl, tt)), tt)))

  -- a row has the same one
  abbrev pub RowMark : RattleType
  RowMark = Struct (shape (Row.the_type R))

  pub row_told : (vs : List Val) → Is RowMark (tt, tt) vs → vs ≡ mark ∷ []
  row_told vs is = is.1.0 ∙ ap (λ (ws : List Val). vstruct (of_list (ws ++ [])) ∷ []) is.1.1.0.1.0

  pub row_made : {M : Type 1} {𝓤 : Ura M} (𝓛 : Logic 𝓤) → ent 𝓤 (emp 𝓤) (sem 𝓛 (RowMark.own_val (tt, tt) (mark ∷ [])))
  row_made 𝓛 = makes_shadow 𝓛 (RowMark.own_val (tt, tt) (mark ∷ [])) (λ vss. (tt, ((λ uss. (tt, tt)), tt))) ((vstruct vnil ∷ [], tt), (refl, ((tt, (refl, tt)), tt)))

  pub strip_told : (p : Ptr) (vs : List Val) → Is (Cells.the_row R) (record { ptr = p }) vs → vs ≡ word p ∷ []
  strip_told p vs is = is.1.0 ∙ ap (λ (ws : List Val). vstruct (of_list (ws ++ [])) ∷ []) is.1.1.0

  pub strip_made : {M : Type 1} {𝓤 : Ura M} (𝓛 : Logic 𝓤) (p : Ptr) → ent 𝓤 (emp 𝓤) (sem 𝓛 ((Cells.the_row R).own_val (record { ptr = p }) (word p ∷ [])))
  strip_made 𝓛 p = makes_shadow 𝓛 ((Cells.the_row R).own_val (record { ptr = p }) (word p ∷ [])) (λ vss. (tt, (tt, tt))) ((ptr_val p ∷ [], tt), (refl, (refl, tt)))
