-- The tokens of a row's cells, dealt one after another.
use Rattle.std.proofs.Common.{◌≡◌, ℕ, suc, ◌+◌, ◌<◌, ◌≤◌, inl, inr, List, ◌∷◌, length, set, refl, sym, ap, ◌∙◌, arith, length-set}
use Rattle.std.proofs.lemmas.Bool.{cases_eq}
use mathlib.Core.Option.{some, some-injective}
use lib.ListN.{get_elem?}
use denote.RawPtr.{Ptr}
use Rattle.atomic_table.proofs.Lists.{set_here, set_else}
use Rattle.dr_cells.specs.declared.token.Token.{Token}
use Rattle.dr_cells.specs.Hold.{whole}
use Rattle.dr_cells.specs.Tokens.{token_at, IsOf}
use Rattle.dr_runs.proofs.Elements.{at_below}
use Rattle.dr_lent.specs.Rows.{IsDealt}

module _ {T : Type 0} where
  -- a token by its parts
  pub token_is : (p : Ptr) (i : ℕ) (t : Token T) (x : T) → IsOf p i t → t.hold ≡ whole x → t ≡ token_at p i (whole x)
  token_is p i t x of holds = λ j. record { mark = t.mark; strip = of.0 j; cell = of.1 j; hold = holds j }

  -- the first cells of a row are dealt, and these are left
  pub record Dealt (p : Ptr) (n place : ℕ) (events left : List T) (before tokens : List (Token T)) : Type 0 where
    pub count : length tokens ≡ length before
    pub many : place + length left ≡ n
    pub rest : (j : ℕ) → get_elem? left j ≡ get_elem? events (place + j)
    pub each : (i : ℕ) (x : T) → i < place → get_elem? events i ≡ some x → get_elem? tokens i ≡ some (token_at p i (whole x))
    pub behind : (i : ℕ) → place ≤ i → get_elem? tokens i ≡ get_elem? before i

  pub dealt_none : (p : Ptr) (n : ℕ) (events : List T) (tokens : List (Token T)) → length events ≡ n → Dealt p n 0 events events tokens tokens
  dealt_none p n events tokens many = record {
    count = refl;
    many = omega arith;
    rest = λ j. (let e : j ≡ 0 + j = omega arith in ap (λ (m : ℕ). get_elem? events m) e);
    each = λ i x lt at. absurd (omega arith);
    behind = λ i le. refl;
  }

  pub dealt_more : (p : Ptr) (n place : ℕ) (events left left' : List T) (before tokens tokens' : List (Token T)) (t : Token T) (x : T) → n ≤ length before
      → Dealt p n place events left before tokens
      → left ≡ x ∷ left' → t ≡ token_at p place (whole x) → tokens' ≡ set tokens place t → Dealt p n (place + 1) events left' before tokens'
  dealt_more p n place events left left' before tokens tokens' t x room D is token put =
      let length_is = ap length is in let count = D.count in let many = D.many in record {
        count = ap length put ∙ length-set tokens place t ∙ D.count;
        many = omega arith;
        rest = λ j. (let e : place + suc j ≡ place + 1 + j = omega arith in
            ap (λ (xs : List T). get_elem? xs (suc j)) (sym is) ∙ D.rest (suc j) ∙ ap (λ (m : ℕ). get_elem? events m) e);
        each = λ i y lt at. ap (λ (xs : List (Token T)). get_elem? xs i) put ∙ elim (cases_eq i place) [
          | inl e ↦ (
              let z : place ≡ place + 0 = omega arith in
              let here : get_elem? events place ≡ some x =
              ap (λ (m : ℕ). get_elem? events m) z ∙ sym (D.rest 0) ∙ ap (λ (xs : List T). get_elem? xs 0) is in
              let same : x ≡ y = some-injective x y (sym here ∙ ap (λ (m : ℕ). get_elem? events m) (sym e) ∙ at) in
              ap (λ (m : ℕ). get_elem? (set tokens place t) m) e ∙ set_here tokens place t (omega arith) ∙ ap (λ (s : Token T). some s) token
              ∙ (λ j. some (token_at p (sym e j) (whole (same j)))))
          | inr ne ↦ set_else tokens place i t ne ∙ D.each i y (omega arith) at
        ];
        behind = λ i le. ap (λ (xs : List (Token T)). get_elem? xs i) put ∙ set_else tokens place i t (λ (same : i ≡ place). omega arith)
            ∙ D.behind i (omega arith);
      }

  pub all_dealt : (p : Ptr) (n place : ℕ) (events left : List T) (before tokens : List (Token T)) → place ≡ n → length events ≡ n
      → Dealt p n place events left before tokens → IsDealt p n events before tokens
  all_dealt p n place events left before tokens done many D = record {
    count = D.count;
    each = λ i x at. (let below = at_below events i x at in D.each i x (omega arith) at);
    others = λ i le. D.behind i (omega arith);
  }
