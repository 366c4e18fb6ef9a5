-- How the workers of a run wait.
use Rattle.std.specs.Prelude.{◌≡◌, ℕ, None}
use Rattle.dr_workers.specs.Calls.Waits.{HasFound, HasParked, begun, found_from, waited_from}
use Rattle.dr_workers.specs.declared.strategy.WaitStrategy.{WaitStrategy}
use Rattle.dr_workers.specs.declared.strategy.WaitStrategy.TheVariants as strategy
use Rattle.dr_workers.specs.declared.strategy.Waits.{Waits}
use Rattle.dr_workers.specs.declared.strategy.Waits.TheVariants as waits

-- somebody begins to wait by a strategy, with room for so many events
abbrev pub Begins : {R : Type 0} → WaitStrategy → ℕ → Waits R → Type 0
Begins strategy.Yielding room (waits.Yielding waiting) = waiting ≡ begun room
Begins strategy.Spinning room (waits.Spinning spinning) = Unit {0}
Begins strategy.Parking room (waits.Parking parking) = (parking.waiting ≡ begun room) × (parking.looks ≡ 0) × (parking.heard ≡ None)
Begins other room after = ⊥

-- it waited once more, by the same strategy
abbrev pub HasWaited : {R : Type 0} → Waits R → Waits R → Type 0
HasWaited (waits.Yielding old) (waits.Yielding new) = new ≡ waited_from old
HasWaited (waits.Spinning old) (waits.Spinning new) = new ≡ old
HasWaited (waits.Parking old) (waits.Parking new) = HasParked old new
HasWaited old new = ⊥

-- it found so many events
abbrev pub HasCome : {R : Type 0} → Waits R → ℕ → Waits R → Type 0
HasCome (waits.Yielding old) count (waits.Yielding new) = new ≡ found_from old count
HasCome (waits.Spinning old) count (waits.Spinning new) = new ≡ old
HasCome (waits.Parking old) count (waits.Parking new) = HasFound old count new
HasCome old count new = ⊥
