-- What a receiver's looks come to, as a poll goes on.
use Rattle.std.specs.Prelude.{◌≡◌, ◌≢◌, ℕ, ◌≤◌, true, List, [], ◌++◌, length, Contains}
use Rattle.dr_runs.specs.OneSender.Words.{cursor_word, count_word}
use Rattle.dr_runs.specs.declared.look.Look.{Look}
use Rattle.dr_ring.specs.declared.record.ReceiverRecord.{ReceiverRecord}
use Rattle.dr_runs.specs.Looks.{last_look, offered_by}
use Rattle.dr_runs.specs.OneSender.Looks.{count_looks}
use Rattle.dr_ring.specs.Calls.Receiving.{ups_of}

-- a receiver has made these looks more
abbrev pub receiver_saw : ReceiverRecord → List Look → ReceiverRecord
receiver_saw r seen = record r { looks = r.looks ++ seen }

-- so many events are offered to a receiver, as far as it saw
pub record IsOfferedUpTo (r : ReceiverRecord) (upto : ℕ) : Type 0 where
  pub completed : (u : ℕ) → Contains (ups_of r) u → upto ≤ last_look 0 r.looks (count_word u)
  pub published : ups_of r ≡ [] → upto ≤ last_look 0 r.looks cursor_word

-- a receiver looked at each upstream's count
pub record LooksAtUpstreams (r : ReceiverRecord) (cursor : ℕ) (r' : ReceiverRecord) (available : ℕ) : Type 0 where
  pub counts : List ℕ
  pub each : length counts ≡ length (ups_of r)
  pub is : r' ≡ receiver_saw r (count_looks (ups_of r) counts)
  pub offered : available ≡ offered_by cursor counts
  pub taken : length r.received ≤ available
  pub found : ups_of r ≢ [] → Contains counts available
  pub completed : (u : ℕ) → Contains (ups_of r) u → available ≤ last_look 0 (r.looks ++ count_looks (ups_of r) counts) (count_word u)
  pub told : r.told ≡ true → ups_of r ≢ [] → available ≤ length r.received
