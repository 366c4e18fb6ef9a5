-- What the handlers of a ring completed, by the words that tell it, and for how much that leaves room.
use Rattle.std.proofs.Common.{◌≡◌, ◌≢◌, ℕ, ◌+◌, ◌<◌, ◌≤◌, inl, inr, List, [], length, get_or, set, map, refl, ap, ◌∙◌, subst, arith}
use Rattle.std.proofs.Common.{get_or-set_same, get_or-set_other}
use Rattle.std.specs.Prelude.{Contains}
use Rattle.std.specs.List.{range_with_len}
use Rattle.std.proofs.lemmas.Bool.{cases_eq, cases_lt}
use Rattle.std.proofs.lemmas.List.{get_or_past}
use Rattle.std.proofs.lemmas.List.FromFn.{get_or-map-range_with_len}
use Rattle.dr_graph.specs.Meaning.Graph.{nobody, upstreams_of, finals, IsOrderly, IsGated, IsGraph}
use Rattle.dr_meaning.specs.Meaning.Machine.{State, least_completed}
use Rattle.dr_runs.specs.OneSender.Words.{count_word}
use Rattle.dr_runs.specs.declared.look.Look.{Look}
use Rattle.dr_runs.specs.Looks.{last_look, ArePast}
use Rattle.dr_runs.proofs.Elements.{word_at, contains_none}
use Rattle.dr_runs.proofs.Lists.{map_same, map_but}
use Rattle.dr_runs.proofs.Looks.{last_look_le}
use Rattle.dr_runs.proofs.Offers.{final_inside, some_final, counts_below}

-- counts by their words
abbrev pub counts_of : List (List ℕ) → List ℕ → List ℕ
counts_of graph words = map (λ h. word_at words (count_word h)) (range_with_len 0 (length graph))

module _ (graph : List (List ℕ)) (words : List ℕ) where
  pub count_at : (h : ℕ) → h < length graph → get_or (counts_of graph words) h 0 ≡ word_at words (count_word h)
  count_at h lt = get_or-map-range_with_len (λ h. word_at words (count_word h)) 0 (length graph) h h 0 lt (omega arith)

  -- another word than theirs is stored
  pub counts_stay : (i v : ℕ) → ((h : ℕ) → h < length graph → count_word h ≢ i) → counts_of graph (set words i v) ≡ counts_of graph words
  counts_stay i v ne =
      map_same (λ h. word_at (set words i v) (count_word h)) (λ h. word_at words (count_word h)) 0 (length graph)
      (λ j low high. get_or-set_other words i (count_word j) v 0 (ne j (omega arith)))

  -- and that of one handler
  pub count_set : (h v : ℕ) → h < length graph → count_word h < length words
      → counts_of graph (set words (count_word h) v) ≡ set (counts_of graph words) h v
  count_set h v lt inside =
      map_but (λ h. word_at words (count_word h)) (λ j. word_at (set words (count_word h) v) (count_word j)) 0 (length graph) h v lt
      (let z : 0 + h ≡ h = omega arith in ap (λ (j : ℕ). word_at (set words (count_word h) v) (count_word j)) z ∙ get_or-set_same words (count_word h) v 0 inside)
      (λ j ne. get_or-set_other words (count_word h) (count_word j) v 0 (λ (e : count_word j ≡ count_word h). ne (omega arith)))

  -- where one rises, none falls
  pub counts_rise : (h v : ℕ) → count_word h < length words → word_at words (count_word h) ≤ v → (j : ℕ)
      → word_at words (count_word j) ≤ word_at (set words (count_word h) v) (count_word j)
  counts_rise h v inside rise j =
      elim (cases_eq j h) [
        | inl e ↦ (let new = get_or-set_same words (count_word h) v 0 inside in
            let a = ap (λ (m : ℕ). word_at (set words (count_word h) v) (count_word m)) e in let b = ap (λ (m : ℕ). word_at words (count_word m)) e in omega arith)
        | inr ne ↦ (let a = get_or-set_other words (count_word h) (count_word j) v 0 (λ (e : count_word j ≡ count_word h). ne (omega arith)) in omega arith)
      ]

  -- they fall along the graph, where each is at most that of each upstream
  pub falls : ((h u : ℕ) → h < length graph → Contains (upstreams_of graph h) u → word_at words (count_word h) ≤ word_at words (count_word u))
      → IsOrderly graph (λ h. word_at words (count_word h))
  falls below h u has =
      elim (cases_lt h (length graph)) [
        | inl lt ↦ below h u lt has
        | inr past ↦ (let e : upstreams_of graph h ≡ [] = get_or_past graph h [] past in
            absurd (contains_none u (subst (λ (ups : List ℕ). Contains ups u) e has)))
      ]

pub upstream_inside : (graph : List (List ℕ)) → IsGraph graph → (h u : ℕ) → h < length graph → Contains (upstreams_of graph h) u → u < length graph
upstream_inside graph is h u lt has = let l : u < h = is.layered h u has in omega arith

-- n sequences are at most a round beyond what each final handler completed
abbrev pub Room : List (List ℕ) → List ℕ → ℕ → ℕ → Type 0
Room graph words size n = (f : ℕ) → Contains (finals graph) f → n ≤ size + word_at words (count_word f)

module _ (graph : List (List ℕ)) (words : List ℕ) (size n : ℕ) where
  -- where no count falls, room stays
  pub room_stays : (us : List ℕ) → ((h : ℕ) → h < length graph → word_at words (count_word h) ≤ word_at us (count_word h))
      → Room graph words size n → Room graph us size n
  room_stays us rises room f final = let a = rises f (final_inside graph f final) in let b = room f final in omega arith

  -- what a sender saw room for has room
  pub room_seen : (rising : ℕ) (looks : List Look) → ((f : ℕ) → Contains (finals graph) f → n ≤ size + last_look 0 looks (count_word f))
      → ArePast rising words looks → Room graph words size n
  room_seen rising looks saw past f final =
      let a = saw f final in let b = last_look_le rising words 0 looks (count_word f) (omega arith) past in omega arith

  -- what leaves room for each final handler is not more than a round ahead of any handler
  pub ahead_of_all : IsGraph graph → IsOrderly graph (λ h. word_at words (count_word h)) → Room graph words size n → (h : ℕ) → h < length graph
      → n ≤ size + word_at words (count_word h)
  ahead_of_all is orderly room h lt =
      let g : IsGated graph nobody (λ h. word_at words (count_word h)) h = is.gate nobody (λ h. word_at words (count_word h)) orderly h lt refl in
      let r : n ≤ size + word_at words (count_word g.last) = room g.last g.final in
      let b : word_at words (count_word g.last) ≤ word_at words (count_word h) = g.behind in omega arith

  -- what has room has it for the machine
  pub machine_room : {T : Type 0} (m : State T) → m.completed ≡ counts_of graph words → IsGraph graph → Room graph words size n
      → n ≤ size + least_completed m (finals graph)
  machine_room m same is room =
      counts_below m (finals graph) size n (some_final graph is)
      (λ f has. (let i = final_inside graph f has in let a = room f has in
      let c : get_or m.completed f 0 ≡ word_at words (count_word f) = ap (λ (d : List ℕ). get_or d f 0) same ∙ count_at graph words f i in omega arith))
