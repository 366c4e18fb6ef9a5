-- The entries that the steps of a ring come to.
use Rattle.std.specs.Prelude.{ℕ, ◌+◌, ◌==◌, List, [], ◌∷◌, length}
use Rattle.dr_meaning.specs.declared.command.Command.{Command}
use Rattle.dr_meaning.specs.declared.command.Command.TheVariants.{Poll}
use Rattle.dr_meaning.specs.declared.command.Reply.{Reply}
use Rattle.dr_meaning.specs.declared.command.Reply.TheVariants.{Batch, Drained}
use Rattle.dr_meaning.specs.Meaning.Transcript.{Entry, Transcript}

abbrev pub entry : {T : Type 0} → Command T → Reply → List T → Transcript T
entry command reply values = record { command = command; reply = reply; values = values } ∷ []

-- the poll by which a handler was told that the ring drained
abbrev pub told_drained : {T : Type 0} → ℕ → Entry T
told_drained h = record { command = Poll h 1; reply = Drained; values = [] }

-- the poll that hands out these events, where some are handed out
abbrev pub poll_of : {T : Type 0} → ℕ → ℕ → List T → ℕ → Transcript T
poll_of h taken [] available = []
poll_of h taken (event ∷ events) available =
    entry (Poll h (length (event ∷ events))) (Batch taken (length (event ∷ events)) (taken + length (event ∷ events) == available)) (event ∷ events)
