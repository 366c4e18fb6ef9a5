-- What is lent, as the tokens that are first in hand tell.
use Rattle.std.proofs.Common.{◌≡◌, ℕ, zero, suc, ◌+◌, List, [], ◌∷◌, ◌++◌, length, drop, sym, refl, ap, ◌∙◌, append_assoc}
use Rattle.dr_cells.specs.Hold.{Hold, blank, whole, part, kept}
use Rattle.dr_lent.proofs.Lists.{drop_seam}
use Rattle.dr_lent.specs.declared.lent.Lent.{Lent}
use Rattle.dr_plain_senders.specs.Meaning.Shape.{Shape}
use Rattle.dr_plain_senders.specs.Meaning.Words.{lanes_of}
use Rattle.dr_plain_senders.specs.Meaning.Lying.{lent}
use Rattle.dr_plain_senders.specs.Inside.Rows.{row}
use Rattle.dr_plain_senders.specs.Inside.Seats.{Hand, given_by_publication}
use Rattle.dr_plain_senders.proofs.Rowing.{row_count}

module _ {T : Type 0} where
  abbrev pub lent_in : Hold T → List (Lent T)
  lent_in blank = []
  lent_in (whole x) = []
  lent_in (part r x) = []
  lent_in (kept r n x) = record { round = r; event = x } ∷ []

  -- what is lent in the first of each of n rows, which have so many slots
  abbrev pub lents_in : ℕ → ℕ → Hand T → List (Lent T)
  lents_in slots zero hand = []
  lents_in slots (suc n) [] = []
  lents_in slots (suc n) (x ∷ hand) = lent_in x.1.hold ++ lents_in slots n (drop slots (x ∷ hand))

  pub lents_are : (k : Shape T) (s : ℕ) (ls : List (Lent T)) (hand others : Hand T)
      → hand ≡ given_by_publication k s ls ++ others → lents_in (lanes_of k) (length ls) hand ≡ ls
  lents_are k s [] hand others is = refl
  lents_are k s (l ∷ ls) hand others is =
      let rest : Hand T = given_by_publication k (s + 1) ls ++ others in
      ap (λ (h : Hand T). lents_in (lanes_of k) (suc (length ls)) h) (is ∙ append_assoc (row k s (lent l)) (given_by_publication k (s + 1) ls) others)
      ∙ ap (λ (h : Hand T). l ∷ lents_in (lanes_of k) (length ls) h) (drop_seam (row k s (lent l)) rest (lanes_of k) (row_count k s (lent l)))
      ∙ ap (λ (xs : List (Lent T)). l ∷ xs) (lents_are k (s + 1) ls rest others refl)

  -- so many are lent
  module _ (k : Shape T) (s n : ℕ) (lents : List (Lent T)) (hand others : Hand T)
      (many : length lents ≡ n) (is : hand ≡ given_by_publication k s lents ++ others) where
    pub found_are : lents_in (lanes_of k) n hand ≡ lents
    found_are = ap (λ (m : ℕ). lents_in (lanes_of k) m hand) (sym many) ∙ lents_are k s lents hand others is

    pub given_first : hand ≡ given_by_publication k s (lents_in (lanes_of k) n hand) ++ others
    given_first = is ∙ ap (λ (ls : List (Lent T)). given_by_publication k s ls ++ others) (sym found_are)

    pub given_rest : drop (length (given_by_publication k s (lents_in (lanes_of k) n hand))) hand ≡ others
    given_rest =
        ap (λ (h : Hand T). drop (length (given_by_publication k s (lents_in (lanes_of k) n hand))) h) given_first
        ∙ drop_seam (given_by_publication k s (lents_in (lanes_of k) n hand)) others (length (given_by_publication k s (lents_in (lanes_of k) n hand))) refl
