-- An event of two words comes back from its record.
use Rattle.std.proofs.Common.{◌≡◌, ◌<◌, ◌^◌, Some}
use Rattle.std.proofs.lemmas.Nat.{from_le_bytes-to_le_bytes_8}
use Rattle.dr_seq.specs.declared.event.Event.{Event}
use Rattle.dr_journal.specs.Calls.Records.{event_record, event_in}

pub back : (event : Event) → event.first < 2 ^ 64 → event.second < 2 ^ 64 → event_in (event_record event) ≡ Some event
back event first second =
    let one = from_le_bytes-to_le_bytes_8 event.first first in
    let two = from_le_bytes-to_le_bytes_8 event.second second in
    λ i. Some (record { first = one i; second = two i })
