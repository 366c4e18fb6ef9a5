use Rattle.std.proofs.Common.{◌≡◌, ◌<◌, ◌+◌, ◌*◌, ◌/◌, ◌^◌, ℕ, arith, subst}
use Rattle.std.proofs.Math.Nat.{div-eq_of_lt, lt-div-mul-add}
use Rattle.std.proofs.lemmas.Bool.{eq-eqb, eqb-true}
use Rattle.std.proofs.lemmas.Nat.{pow_pos}
use Rattle.dr_c.proofs.amiss.is_in_order.Goals as goal

-- a number is below another by which its quotient is none
below : (m d : ℕ) → 0 < d → m / d ≡ 0 → m < d
below m d some none = (let h : m < 0 * d + d = subst (λ q. m < q * d + d) none (lt-div-mul-add some) in omega arith)

pub returns : goal.returns
returns c = (
  λ is. below c.args.mask (2 ^ c.args.handler) (pow_pos c.args.handler) (eqb-true (c.args.mask / 2 ^ c.args.handler) 0 is),
  λ less. eq-eqb (c.args.mask / 2 ^ c.args.handler) 0 (div-eq_of_lt less),
)
