-- What a recorder's thread promises.
use Rattle.std.specs.Prelude.{◌≡◌, ◌+◌, ◌<◌, ◌^◌, true, length}
use Rattle.dr_plain.specs.Calls.Ends.{ReceiverEnd, receiver_place}
use Rattle.example_ticks.specs.declared.Recorded.{Recorded}
use Rattle.example_ticks.specs.declared.Recorder.{Recorder}
use Rattle.example_ticks.specs.declared.Tick.{Tick}

-- an end is the one that was given, and a recorder counted all that it received since, if a number can
pub record HasCounted (given e : ReceiverEnd Tick) (recorder : Recorder) : Type 0 where
  pub place : receiver_place e ≡ receiver_place given
  pub count : length e.knows.received < 2 ^ 64 → length given.knows.received + recorder.count ≡ length e.knows.received

-- so it is of what comes back, once the end was told that the ring drained
pub record CountedAll (given : ReceiverEnd Tick) (back : Recorded) : Type 0 where
  pub counted : HasCounted given back.receiver back.recorder
  pub drained : back.receiver.knows.told ≡ true
