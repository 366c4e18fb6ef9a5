-- The tokens of a strip's cells go back to its row.
use Rattle.std.proofs.Common.{◌≡◌, ℕ, ◌+◌, ◌≤◌, List, [], ◌∷◌, ◌++◌, map, length, set, take, Option, Some, sym, refl, ap, ◌∙◌, arith, length-set}
use Rattle.std.proofs.lemmas.List.{length-map, length-append, map-append}
use mathlib.Core.Option.{some}
use lib.ListN.{get_elem?}
use denote.RawPtr.{Ptr}
use Rattle.atomic_table.proofs.Lists.{set_else}
use Rattle.dr_cells.specs.declared.token.Token.{Token}
use Rattle.dr_cells.specs.Hold.{whole, held}
use Rattle.dr_cells.specs.Tokens.{token_at}
use Rattle.dr_runs.proofs.Lists.{map_there, take_whole}
use Rattle.dr_lent.specs.Rows.{cells_of, AreAllWhole}
use Rattle.dr_lent.proofs.Lists.{take_more}

module _ {T : Type 0} where
  -- The tokens of a strip go back to its row, one after another.
  pub record Rowed (p : Ptr) (place : ℕ) (tokens now : List (Token T)) (items : List T) : Type 0 where
    pub many : length items ≡ place
    pub items_are : map (λ (x : T). Some x) items ≡ take place (cells_of tokens)
    pub rest : (i : ℕ) → place ≤ i → get_elem? now i ≡ get_elem? tokens i
    pub count : length now ≡ length tokens

  pub rowed_none : (p : Ptr) (tokens : List (Token T)) → Rowed p 0 tokens tokens []
  rowed_none p tokens = record { many = refl; items_are = refl; rest = λ i le. refl; count = refl }

  pub rowed_more : (p : Ptr) (place : ℕ) (tokens was now : List (Token T)) (items items' : List T) (t u : Token T) (x : T) → Rowed p place tokens was items
      → get_elem? was place ≡ some t → t.hold ≡ whole x → items' ≡ items ++ x ∷ [] → now ≡ set was place u → Rowed p (place + 1) tokens now items'
  rowed_more p place tokens was now items items' t u x R at holds more put =
      let here : get_elem? tokens place ≡ some t = sym (R.rest place (omega arith)) ∙ at in
      let cell : get_elem? (cells_of tokens) place ≡ some (Some x) =
      map_there (λ (y : Token T). held y.hold) tokens place t here ∙ ap (λ h. some (held h)) holds in record {
        many = ap length more ∙ length-append items (x ∷ []) ∙ ap (λ (n : ℕ). n + 1) R.many;
        items_are = ap (map (λ (y : T). Some y)) more ∙ map-append (λ (y : T). Some y) items (x ∷ [])
            ∙ ap (λ (os : List (Option T)). os ++ Some x ∷ []) R.items_are ∙ take_more (cells_of tokens) place (Some x) cell;
        rest = λ i le. ap (λ (xs : List (Token T)). get_elem? xs i) put ∙ set_else was place i u (λ (e : i ≡ place). omega arith) ∙ R.rest i (omega arith);
        count = ap length put ∙ length-set was place u ∙ R.count;
      }

  pub rowed_all : (p : Ptr) (place : ℕ) (tokens now : List (Token T)) (items : List T) → Rowed p place tokens now items → length tokens ≤ place
      → map (λ (x : T). Some x) items ≡ cells_of tokens
  rowed_all p place tokens now items R all =
      let len = length-map tokens (λ (t : Token T). held t.hold) in R.items_are ∙ take_whole (cells_of tokens) place (omega arith)

  -- the token of the next cell is whole
  pub rowed_next : (p : Ptr) (place : ℕ) (tokens now : List (Token T)) (items : List T) (t : Token T) → Rowed p place tokens now items → AreAllWhole p tokens
      → get_elem? now place ≡ some t → (x : T) × (t ≡ token_at p place (whole x))
  rowed_next p place tokens now items t R W at = W place t (sym (R.rest place (omega arith)) ∙ at)
