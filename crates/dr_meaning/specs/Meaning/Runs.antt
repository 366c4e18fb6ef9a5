-- A whole run of commands.
use Rattle.std.specs.Prelude.{ℕ, ◌+◌, min, List, [], ◌∷◌, take, drop}
use Rattle.dr_meaning.specs.declared.command.Command.{Command}
use Rattle.dr_meaning.specs.declared.command.Command.TheVariants.{Poll}
use Rattle.dr_meaning.specs.declared.command.Reply.{Reply}
use Rattle.dr_meaning.specs.declared.command.Reply.TheVariants.{Batch}
use Rattle.dr_meaning.specs.Meaning.Transcript.{Transcript}

-- how many events come with a reply
abbrev pub count_in : Reply → ℕ
count_in (Batch first count end) = count
count_in other = 0

-- how many events some replies have
abbrev pub counts_of : List Reply → ℕ
counts_of [] = 0
counts_of (reply ∷ replies) = count_in reply + counts_of replies

-- the room that a command needs at most: no batch is longer than the ring
abbrev pub offers : {E : Type 0} → Command E → ℕ → ℕ
offers (Poll h max) size = min max size
offers other size = 0

-- the room that some commands need at most
abbrev pub needed : {E : Type 0} → List (Command E) → ℕ → ℕ
needed [] size = 0
needed (command ∷ commands) size = offers command size + needed commands size

-- each command with its reply, and the events cut by the counts of the batches
abbrev pub transcript_of : {E : Type 0} → List (Command E) → List Reply → List E → Transcript E
transcript_of [] replies values = []
transcript_of (command ∷ commands) [] values = []
transcript_of (command ∷ commands) (reply ∷ replies) values =
    record { command = command; reply = reply; values = take (count_in reply) values } ∷ transcript_of commands replies (drop (count_in reply) values)
