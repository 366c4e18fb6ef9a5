-- The graph of the replay is the one that its declaration says.
use Rattle.std.proofs.Common.{◌≡◌, ◌<◌, ◌+◌, ℕ, zero, suc, true, false, List, [], ◌∷◌, ◌++◌, take, get_or, subst, refl, sym, ap, ◌∙◌, arith}
use Rattle.std.specs.Prelude.{Contains, codes}
use Rattle.dr_graph.specs.declared.edge.Edge.{Edge}
use Rattle.dr_graph.specs.Meaning.Declaration.{Declaration, followed_by}
use Rattle.dr_graph.specs.Meaning.Graph.{AreChosen, IsGraphOf, GraphView, leads_to, upstreams_of}
use Rattle.dr_graph.specs.Meaning.Name.{Name}
use Rattle.dr_graph.specs.Meaning.Order.{IsNext, is_in, is_ready}
use Rattle.dr_reports.specs.Passing.{replay_graph, replay_names}

abbrev pub replay_edges : List Edge
replay_edges = record { up = 0; down = 2 } ∷ record { up = 1; down = 2 } ∷ []

abbrev pub declared : Declaration
declared = record { names = replay_names; edges = replay_edges }

abbrev order : List ℕ
order = 0 ∷ 1 ∷ 2 ∷ []

all_in : (h : ℕ) → h < 3 → is_in order h ≡ true
all_in zero l = refl
all_in (suc zero) l = refl
all_in (suc (suc zero)) l = refl
all_in (suc (suc (suc h))) l = absurd (omega arith)

none_before : (j : ℕ) → j < 0 → is_ready replay_edges [] j ≡ false
none_before j l = absurd (omega arith)

one_before : (j : ℕ) → j < 1 → is_ready replay_edges (0 ∷ []) j ≡ false
one_before zero l = refl
one_before (suc j) l = absurd (omega arith)

two_before : (j : ℕ) → j < 2 → is_ready replay_edges (0 ∷ 1 ∷ []) j ≡ false
two_before zero l = refl
two_before (suc zero) l = refl
two_before (suc (suc j)) l = absurd (omega arith)

first_is : IsNext 3 replay_edges [] 0
first_is = record { declared = omega arith; ready = refl; first = none_before }

second_is : IsNext 3 replay_edges (0 ∷ []) 1
second_is = record { declared = omega arith; ready = refl; first = one_before }

third_is : IsNext 3 replay_edges (0 ∷ 1 ∷ []) 2
third_is = record { declared = omega arith; ready = refl; first = two_before }

no_upstream : (h : ℕ) → ((n : ℕ) → n < 3 → leads_to replay_edges order h n ≡ false) → AreChosen (leads_to replay_edges order h) 3 []
no_upstream h none = record {
  chosen = λ n has. absurd (let inside = has.1 in omega arith);
  all = λ n l c. absurd (let clash : false ≡ true = sym (none n l) ∙ c in (let no_way : ⊥ = cc in no_way));
  rising = λ k l. absurd (omega arith);
}

no_first : (n : ℕ) → n < 3 → leads_to replay_edges order 0 n ≡ false
no_first zero l = refl
no_first (suc zero) l = refl
no_first (suc (suc zero)) l = refl
no_first (suc (suc (suc n))) l = absurd (omega arith)

no_second : (n : ℕ) → n < 3 → leads_to replay_edges order 1 n ≡ false
no_second zero l = refl
no_second (suc zero) l = refl
no_second (suc (suc zero)) l = refl
no_second (suc (suc (suc n))) l = absurd (omega arith)

last_of : (n k : ℕ) → k < 2 → get_or (0 ∷ 1 ∷ []) k n ≡ n → (n < 3) × (leads_to replay_edges order 2 n ≡ true)
last_of n zero l is = let P : ℕ → Type 0 = λ x. (x < 3) × (leads_to replay_edges order 2 x ≡ true) in subst P is ((let small : 0 < 3 = omega arith in small), refl)
last_of n (suc zero) l is = let P : ℕ → Type 0 = λ x. (x < 3) × (leads_to replay_edges order 2 x ≡ true) in subst P is ((let small : 1 < 3 = omega arith in small), refl)
last_of n (suc (suc k)) l is = absurd (omega arith)

all_of : (n : ℕ) → n < 3 → leads_to replay_edges order 2 n ≡ true → Contains (0 ∷ 1 ∷ []) n
all_of zero l c = (0, (let inside : 0 < 2 = omega arith in inside), refl)
all_of (suc zero) l c = (1, (let inside : 1 < 2 = omega arith in inside), refl)
all_of (suc (suc zero)) l c = absurd (let clash : false ≡ true = c in (let no_way : ⊥ = cc in no_way))
all_of (suc (suc (suc n))) l c = absurd (omega arith)

rises_of : (k : ℕ) → k + 1 < 2 → get_or (0 ∷ 1 ∷ []) k 0 < get_or (0 ∷ 1 ∷ []) (k + 1) 0
rises_of zero l = omega arith
rises_of (suc k) l = absurd (omega arith)

last_chosen : AreChosen (leads_to replay_edges order 2) 3 (0 ∷ 1 ∷ [])
last_chosen = record { chosen = λ n has. last_of n has.0 has.1 has.2; all = all_of; rising = rises_of }

each_next : (k : ℕ) → k < 3 → IsNext 3 replay_edges (take k order) (get_or order k 0)
each_next zero l = first_is
each_next (suc zero) l = second_is
each_next (suc (suc zero)) l = third_is
each_next (suc (suc (suc k))) l = absurd (omega arith)

each_chosen : (h : ℕ) → h < 3 → AreChosen (leads_to replay_edges order h) 3 (upstreams_of replay_graph h)
each_chosen zero l = no_upstream 0 no_first
each_chosen (suc zero) l = no_upstream 1 no_second
each_chosen (suc (suc zero)) l = last_chosen
each_chosen (suc (suc (suc h))) l = absurd (omega arith)

abbrev pub replay_shape : GraphView
replay_shape = record { names = replay_names; upstreams = replay_graph }

pub is_its_graph : IsGraphOf declared replay_shape
is_its_graph = record {
  order = order;
  built = record { length = refl; all = all_in; each = each_next };
  named = refl;
  complete = refl;
  upstreams = each_chosen;
}

-- what the builder's calls declare
pub declares : (none some all : Declaration) (group first later : List Name) → none.names ≡ [] → none.edges ≡ []
    → first ≡ codes "journal" ∷ codes "replica" ∷ [] → later ≡ codes "business" ∷ []
    → some ≡ record none { names = none.names ++ first } → group ≡ first → all ≡ followed_by some group later → all ≡ declared
declares none some all group first later no_names no_edges first_is later_is one same two =
    let both : List Name = codes "journal" ∷ codes "replica" ∷ [] in
    let begun : some ≡ record { names = both; edges = [] } =
    one ∙ ap (λ names. record { names = names ++ first; edges = none.edges }) no_names ∙ ap (λ edges. record { names = first; edges = edges }) no_edges ∙ ap (λ names. record { names = names; edges = [] }) first_is in
    two ∙ ap (λ d. followed_by d group later) begun ∙ ap (λ g. followed_by (record { names = both; edges = [] }) g later) (same ∙ first_is)
    ∙ ap (followed_by (record { names = both; edges = [] }) both) later_is
