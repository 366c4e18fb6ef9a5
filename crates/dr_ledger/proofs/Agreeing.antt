-- How a journal and its replica agree, or do not.
use Rattle.std.proofs.Common.{◌≡◌, ◌≤◌, ◌↔◌, ℕ, Bool, false, Option, None, Some, List, [], ◌∷◌, ◌++◌, length, map, take, drop, refl, sym, ◌∙◌, ap, subst, append-nil, append_assoc, take-append-drop}
use Rattle.std.specs.Prelude.{IsTrue}
use Rattle.std.proofs.Math.Seq.{drop-append_seam}
use Rattle.std.proofs.lemmas.List.{take-append-le}
use Rattle.dr_seq.specs.declared.event.Event.{Event}
use Rattle.dr_ledger.specs.Standing.{IsBeginning, Say}
use Rattle.dr_ledger.specs.Starting.{AreTaken, Differ}
use Rattle.dr_ledger.specs.declared.accounts.Accounts.{Accounts}
use Rattle.dr_ledger.specs.declared.coming.Coming.{Coming}

-- those that are there
there : List (Option Event) → List Event
there [] = []
there (None ∷ rest) = there rest
there (Some event ∷ rest) = event ∷ there rest

all_there : (events : List Event) → there (map (λ e. Some e) events) ≡ events
unfolding there
all_there [] = refl
all_there (event ∷ events) = ap (λ l. event ∷ l) (all_there events)

-- records say one list of operations
pub say_one : (records : List (List ℕ)) (a b : List Event) → Say records a → Say records b → a ≡ b
say_one records a b says other = sym (all_there a) ∙ ap there (sym says ∙ other) ∙ all_there b

-- what is no beginning of what is said is none of what any list says
differ : (records copied : List (List ℕ)) (a b : List Event) → Say records a → Say copied b → (IsBeginning a b → ⊥) → (IsBeginning b a → ⊥)
    → Differ records copied
differ records copied a b says other neither nor = λ events others said copies. (
  λ first. neither
      (subst (λ l. IsBeginning l b) (say_one records events a said says) (subst (λ l. IsBeginning events l) (say_one copied others b copies other) first)),
  λ first. nor
      (subst (λ l. IsBeginning l a) (say_one copied others b copies other) (subst (λ l. IsBeginning others l) (say_one records events a said says) first)),
)

-- what begins with operations has the same ones in their places
same_places : (past a b : List Event) (n : ℕ) → n ≤ length a → IsBeginning (past ++ a) (past ++ b) → take n b ≡ take n a
same_places past a b n within first =
    let behind : b ≡ a ++ first.0 = sym (drop-append_seam past b) ∙ ap (λ l. drop (length past) l) (first.1 ∙ append_assoc past a first.0) ∙ drop-append_seam past (a ++ first.0) in
    ap (λ l. take n l) behind ∙ take-append-le n a first.0 within

-- behind what both say, operations that are not the same
pub differ_there : (records copied : List (List ℕ)) (past a b : List Event) (n : ℕ) → Say records (past ++ a) → Say copied (past ++ b) → n ≤ length a → n ≤ length b
    → (take n a ≡ take n b → ⊥) → Differ records copied
differ_there records copied past a b n says other within within_other others =
    differ records copied (past ++ a) (past ++ b) says other (λ first. others (sym (same_places past a b n within first))) (λ first. others (same_places past b a n within_other first))

-- the first ones that wait are taken
pub taken_first : (records : List (List ℕ)) (past waiting : List Event) (n : ℕ) → Say records (past ++ waiting) → Say records ((past ++ take n waiting) ++ drop n waiting)
taken_first records past waiting n says =
    subst (λ l. Say records l) (ap (λ l. past ++ l) (sym (take-append-drop n waiting)) ∙ sym (append_assoc past (take n waiting) (drop n waiting))) says

-- of two files, where those are the same
pub matched : (records copied : List (List ℕ)) (past w v front first rest later : List Event) (n : ℕ) → Say records (past ++ w) → Say copied (past ++ v)
    → front ≡ take n w → rest ≡ drop n w → first ≡ take n v → later ≡ drop n v → front ≡ first
    → Say records ((past ++ front) ++ rest) × Say copied ((past ++ front) ++ later)
matched records copied past w v front first rest later n says other is_front is_rest is_first is_later same =
    let own = subst (λ l. Say records ((past ++ l) ++ drop n w)) (sym is_front) (taken_first records past w n says) in
    let copy = subst (λ l. Say copied ((past ++ l) ++ drop n v)) (sym is_first ∙ sym same) (taken_first copied past v n other) in
    (subst (λ l. Say records ((past ++ front) ++ l)) (sym is_rest) own, subst (λ l. Say copied ((past ++ front) ++ l)) (sym is_later) copy)

-- a test that says so, and one that does not
pub not_so : (r : Bool) (A : Type 0) → (IsTrue r ↔ A) → r ≡ false → A → ⊥
not_so r A is untrue here = let yes = is.1 here in cc

-- behind what was taken before
pub taken_on : (journal replica : Coming) (accounts : Accounts) (past first more : List Event) → AreTaken journal replica accounts ((past ++ first) ++ more)
    → AreTaken journal replica accounts (past ++ (first ++ more))
taken_on journal replica accounts past first more taken = subst (λ l. AreTaken journal replica accounts l) (append_assoc past first more) taken

pub none_taken : (journal replica : Coming) (accounts : Accounts) (past : List Event) → AreTaken journal replica accounts past
    → AreTaken journal replica accounts (past ++ [])
none_taken journal replica accounts past taken = subst (λ l. AreTaken journal replica accounts l) (sym (append-nil past)) taken
