-- A token may go to another thread where its cell's value may be owned there, and may be shared where the value may. A row goes where the values go. Assumes nothing.
use Rattle.std.specs.Prelude.{ℕ, ◌+◌, List, [], ◌∷◌}
use base.Shift.{Keyless}
use denote.RattleType.{RattleType}
use denote.RawPtr.{Ptr}
use denote.Struct.Struct.{exits_of}
use denote.Struct.Owning.{shape, fields, to}
use denote.Param.Send.{IsSend, IsSync, Common, AllSend, owning_send, struct_send, struct_sync, sendable}
use Rattle.core.specs.Ptr.{ptr_add}
use Rattle.std_alloc.proofs.SendSync.{quiet, lies, seen}
use Rattle.dr_cells.specs.Hold.{Hold, blank, whole, part, kept}
use Rattle.dr_cells.specs.Owned.{hold_owns, hold_shares, row_owns}
use Rattle.dr_cells.specs.contracts.row.Row as Row
use Rattle.dr_cells.specs.contracts.token.Token as Token

module _ (R : RattleType) where
  hold-Keyless : IsSend R → IsSync R → (i : ℕ) (p : Ptr) (h : Hold R.Denot) → Keyless (hold_owns R i p h)
  hold-Keyless s y i p blank = tt
  hold-Keyless s y i p (whole x) = (tt, lies R s p x)
  hold-Keyless s y i p (part r x) = (tt, ((λ e c. tt), seen R y p x (r ∷ [])))
  hold-Keyless s y i p (kept r k x) = (tt, ((tt, ((λ e c. tt), seen R y p x (r ∷ []))), lies R s p x))

  hold-Common : IsSync R → (i : ℕ) (p : Ptr) (h : Hold R.Denot) → Common (hold_shares R i p h)
  hold-Common y i p blank κ = tt
  hold-Common y i p (whole x) κ = (tt, seen R y p x κ)
  hold-Common y i p (part r x) κ = (tt, ((λ q. tt), seen R y p x (r ∷ [])))
  hold-Common y i p (kept r k x) κ = (tt, ((tt, ((λ q. tt), seen R y p x (r ∷ []))), tt))

  pub Token-send : IsSend R → IsSync R → IsSend (Token.the_row R)
  Token-send s y =
      let O = Token.the_type R in let all : AllSend (fields O) = (search sendable, tt) in
      owning_send O all (λ d. hold-Keyless s y d.cell (ptr_add R d.cell d.strip) d.hold) (λ k. quiet (to O) (exits_of k (fields O)) ((struct_send (shape O) all).leaving k))

  pub Token-sync : IsSync R → IsSync (Token.the_row R)
  Token-sync y = let O = Token.the_type R in
      record { shared = λ d b o κ. ((struct_sync (shape O) (search sendable, tt)).shared (to O d) b o κ, hold-Common y d.cell (ptr_add R d.cell d.strip) d.hold κ) }

  row-Keyless : IsSend R → (s : Ptr) (i : ℕ) (xs : List R.Denot) → Keyless (row_owns R s i xs)
  row-Keyless g s i [] = tt
  row-Keyless g s i (x ∷ xs) = ((tt, lies R g (ptr_add R i s) x), row-Keyless g s (i + 1) xs)

  pub Row-send : IsSend R → IsSend (Row.the_row R)
  Row-send g =
      let O = Row.the_type R in let all : AllSend (fields O) = (search sendable, tt) in
      owning_send O all (λ d. row-Keyless g d.strip d.from d.items) (λ k. quiet (to O) (exits_of k (fields O)) ((struct_send (shape O) all).leaving k))
