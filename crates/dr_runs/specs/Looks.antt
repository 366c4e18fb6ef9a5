-- What the ends of a ring saw of words that others store, and what the counts among these offer.
use Rattle.std.specs.Prelude.{◌≡◌, ℕ, ◌<◌, ◌≤◌, ◌==◌, ◌||◌, nat_lt, if◌then◌else◌, Bool, min, List, [], ◌∷◌, length, slice_index}
use mathlib.Core.Option.{some}
use lib.ListN.{get_elem?}
use Rattle.dr_graph.specs.Meaning.Graph.{least_of}
use Rattle.dr_runs.specs.declared.look.Look.{Look}

abbrev pub look : ℕ → ℕ → Look
look word value = record { word = word; value = value }

-- the value of the last look at a word, or d where there is none
abbrev pub last_look : ℕ → List Look → ℕ → ℕ
last_look d [] word = d
last_look d (x ∷ xs) word = last_look (if x.word == word then x.value else d) xs word

-- a look finds no less than the last one at its word
abbrev pub FindsMore : List Look → ℕ → ℕ → Type 0
FindsMore looks word n = last_look 0 looks word ≤ n

-- how many looks an end counts
abbrev pub looks_counted : List Look → ℕ
looks_counted looks = min (length looks) 18446744073709551615

-- looks at words of some handlers, in their order, as far as there are values
abbrev pub looks_at : (ℕ → ℕ) → List ℕ → List ℕ → List Look
looks_at word_of [] values = []
looks_at word_of (h ∷ hs) [] = []
looks_at word_of (h ∷ hs) (n ∷ values) = look (word_of h) n ∷ looks_at word_of hs values

-- the least of some counts or, where there is none, the cursor
abbrev pub offered_by : ℕ → List ℕ → ℕ
offered_by cursor [] = cursor
offered_by cursor (n ∷ counts) = least_of (n ∷ counts)

-- the lesser of a count and those seen before, or the count where it is the first
abbrev pub lesser_of : Bool → ℕ → ℕ → ℕ
lesser_of first count seen = if first || nat_lt count seen then count else seen

-- a look was at one of the first words, which only rise, and found at most what is there now
pub record IsPast (rising : ℕ) (words : List ℕ) (x : Look) : Type 0 where
  pub rises : x.word < rising
  pub before : x.value ≤ slice_index words x.word

abbrev pub ArePast : ℕ → List ℕ → List Look → Type 0
ArePast rising words looks = (i : ℕ) (x : Look) → get_elem? looks i ≡ some x → IsPast rising words x
