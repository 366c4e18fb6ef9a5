-- What an end answers that shows nothing.
use Rattle.std.proofs.Common.{◌≡◌, ℕ, ◌+◌, ◌-◌, ◌^◌, false, None, Ok, refl}
use Rattle.std.specs.Prelude.{nat_le, nat_lt, flat_map}
use Rattle.std.specs.List.{range_with_len}
use Rattle.dr_seq.specs.declared.event.Event.{Event}
use Rattle.dr_meaning.specs.Meaning.Refusals.{sequence_causes}
use Rattle.dr_meaning.specs.Calls.Ends.{MayHold, MayFail, PublishAnswers, end_sequence_tests}
use Rattle.dr_meaning.proofs.Causes.{none_join, none_of_stretch}

-- an end that shows nothing may publish any stretch below 2^62
pub silent : (lo hi : ℕ) → nat_lt hi lo ≡ false → nat_le (2 ^ 62) hi ≡ false → PublishAnswers {E = Event} None lo hi (Ok tt)
silent lo hi ordered claimed =
    let stretch = none_of_stretch MayHold MayFail (λ s. sequence_causes (end_sequence_tests {E = Event} None s)) lo (hi + 1 - lo)
    (λ k l. (refl, (refl, (refl, tt)))) in
    let causes = flat_map (λ s. sequence_causes (end_sequence_tests {E = Event} None s)) (range_with_len lo (hi + 1 - lo)) in
    (refl, (ordered, (claimed, none_join MayHold MayFail causes _ stretch (refl, tt))))
