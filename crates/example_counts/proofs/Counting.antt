-- What a recorder counts of the ticks that it was shown.
use Rattle.std.proofs.Common.{◌≡◌, ℕ, ◌+◌, ◌^◌, ◌%◌, ◌<◌, Bool, List, [], ◌∷◌, ◌++◌, length, arith, sym, ◌∙◌}
use Rattle.std.proofs.lemmas.List.{length_push}
use Rattle.dr_meaning.specs.Calls.Handling.{Relation}
use Rattle.dr_disruptor.proofs.Along.{along_run}
use Rattle.dr_disruptor.specs.Handlers.{WentThrough}
use Rattle.example_counts.specs.declared.Recorder.{Recorder}
use Rattle.example_counts.specs.declared.Tick.{Tick}

-- one call, as the handler says it
abbrev records : Relation Tick Recorder
records old tick s end new = new.count ≡ (old.count + 1) % 2 ^ 64

-- it counted all of these, if a number can
abbrev Counted : Recorder → List Tick → Type 0
Counted recorder ticks = length ticks < 2 ^ 64 → recorder.count ≡ length ticks

one_more : (old new : Recorder) (ticks : List Tick) (tick : Tick) (s : ℕ) (end : Bool) → Counted old ticks → records old tick s end new → Counted new (ticks ++ tick ∷ [])
one_more old new ticks tick s end counted goes few =
    let longer : length (ticks ++ tick ∷ []) ≡ length ticks + 1 = length_push ticks tick in
    let was : old.count ≡ length ticks = counted (omega arith) in
    omega arith

-- who began with none and went through so many ticks counted so many
pub all_counted : (most : ℕ) (start after : Recorder) (ticks : List Tick) → WentThrough records most start after ticks → start.count ≡ 0
    → (sent : ℕ) → sent ≡ length ticks → sent < 2 ^ 64 → after.count ≡ sent
all_counted most start after ticks went none sent many few =
    along_run records Counted one_more most start after ticks went (λ _. none) (omega arith) ∙ sym many
