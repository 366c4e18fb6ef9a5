-- A list in which the same stands so many times: one more comes, and the last one leaves.
use Rattle.std.proofs.Common.{◌≡◌, ℕ, ◌+◌, ◌-◌, ◌<◌, List, [], ◌∷◌, ◌++◌, Vec, Global, length, map, take, replicate}
use Rattle.std.proofs.Common.{refl, sym, ap, ◌∙◌, arith}
use Rattle.std.proofs.lemmas.List.{length-append, length-map, length-replicate, map-append, replicate_more, take-replicate}
use Rattle.std.proofs.Math.Seq.{take-append_seam}
use mathlib.Core.Option.{some}
use lib.ListN.{get_elem?}
use Rattle.dr_cells.specs.declared.token.Token.{Token}
use Rattle.dr_cells.specs.Tokens.{no_token}
use Rattle.dr_runs.proofs.Rows.{at_replicate}
use Rattle.dr_plain_senders.specs.Inside.Rooms.{AreBlankRows}

module _ {A : Type 0} where
  at_last : (items : List A) (a : A) → get_elem? (items ++ a ∷ []) (length items) ≡ some a
  at_last [] a = refl
  at_last (x ∷ items) a = at_last items a

  -- the last one is the same
  pub alike_last : (items now : List A) (a b : A) (n : ℕ) → items ≡ replicate n b → items ≡ now ++ a ∷ [] → a ≡ b
  alike_last items now a b n all is =
      sym (at_replicate n (length now) b a (ap (λ (xs : List A). get_elem? xs (length now)) (sym all ∙ is) ∙ at_last now a))

  -- and so are those before it
  pub alike_left : (items now : List A) (a b : A) (n place : ℕ) → place < n → items ≡ replicate (n - place) b → items ≡ now ++ a ∷ []
      → now ≡ replicate (n - (place + 1)) b
  alike_left items now a b n place lt all is =
      let same : now ++ a ∷ [] ≡ replicate (n - place) b = sym is ∙ all in let long = ap length same in
      let count : length now ≡ n - (place + 1) = omega (arith, length-append now (a ∷ []), length-replicate (n - place) b) in
      sym (take-append_seam now (a ∷ [])) ∙ ap (take (length now)) same ∙ take-replicate (length now) (n - place) b (omega arith)
      ∙ ap (λ (m : ℕ). replicate m b) count

module _ {T : Type 0} where
  abbrev items_of : Vec (Token T) Global → List (Token T)
  items_of row = row.items

  last_mapped : (rows now : List (Vec (Token T) Global)) (row : Vec (Token T) Global) → rows ≡ now ++ row ∷ []
      → map items_of rows ≡ map items_of now ++ row.items ∷ []
  last_mapped rows now row is = ap (map items_of) is ∙ map-append items_of now (row ∷ [])

  pub blank_rows_more : (size n : ℕ) (rows now : List (Vec (Token T) Global)) (row : Vec (Token T) Global) → AreBlankRows n size rows
      → row.items ≡ replicate size no_token → now ≡ rows ++ row ∷ [] → AreBlankRows (n + 1) size now
  blank_rows_more size n rows now row all blank is =
      last_mapped now rows row is ∙ (λ i. all i ++ blank i ∷ []) ∙ replicate_more n (replicate size no_token)

  pub blank_rows_many : (size n : ℕ) (rows : List (Vec (Token T) Global)) → AreBlankRows n size rows → length rows ≡ n
  blank_rows_many size n rows all = sym (length-map rows items_of) ∙ ap length all ∙ length-replicate n (replicate size no_token)

  pub blank_row_last : (size n : ℕ) (rows now : List (Vec (Token T) Global)) (row : Vec (Token T) Global) → AreBlankRows n size rows
      → rows ≡ now ++ row ∷ [] → row.items ≡ replicate size no_token
  blank_row_last size n rows now row all is =
      alike_last (map items_of rows) (map items_of now) row.items (replicate size no_token) n all (last_mapped rows now row is)

  pub blank_rows_left : (size n place : ℕ) (rows now : List (Vec (Token T) Global)) (row : Vec (Token T) Global) → place < n
      → AreBlankRows (n - place) size rows → rows ≡ now ++ row ∷ [] → AreBlankRows (n - (place + 1)) size now
  blank_rows_left size n place rows now row lt all is =
      alike_left (map items_of rows) (map items_of now) row.items (replicate size no_token) n place lt all (last_mapped rows now row is)
