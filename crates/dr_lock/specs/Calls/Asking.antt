-- What calls through a lock make of the end that they go through: each is answered as the machine answers it, and the end remembers it with its answer and the events that it was handed.
use Rattle.std.specs.Prelude.{◌≡◌, ℕ, List, [], Result, length}
use Rattle.dr_meaning.specs.declared.command.Command.{Command}
use Rattle.dr_meaning.specs.declared.command.Command.TheVariants.{Claim, Complete, Poll, Publish, Write}
use Rattle.dr_meaning.specs.declared.command.Reply.{Reply}
use Rattle.dr_meaning.specs.declared.command.Reply.TheVariants.{Completed, Published, Written}
use Rattle.dr_meaning.specs.declared.ends.Trouble.{Trouble}
use Rattle.dr_meaning.specs.declared.refusal.Refusal.{Refusal}
use Rattle.dr_meaning.specs.Calls.Calling.{InletCall, OutletCall, TriesClaim, WritesOne, WritesMany, PublishesStretch, PollsInto, CompletesBelow}
use Rattle.dr_meaning.specs.Calls.Replies.{claim_reply, poll_reply, polled, unit_reply}
use Rattle.dr_lock.specs.Calls.Lock.{AreWritten, EndView, IsAnswer, UnlessMemory, after_call, after_calls, handed, handed_by, told_by, writes_asked}
use Rattle.dr_lock.specs.Meaning.History.{History}

-- a command is asked through an end of an exchange that began so
abbrev pub IsAsked : {E A : Type 0} → History E → Command E → (Result A Refusal → Reply) → (Result A Refusal → List E) → EndView E → Result A Trouble → EndView E → Type 0
IsAsked begun command reply_of values_of old result new =
    UnlessMemory (λ answer. IsAnswer begun command (reply_of answer) (values_of answer)) result
    × (new ≡ handed (handed_by values_of result) (after_call command (told_by reply_of result) old))

-- of the producer p
abbrev pub InletAsks : {E : Type 0} → History E → ℕ → EndView E → InletCall E → EndView E → Type 0
InletAsks begun p old (TriesClaim n result) new = IsAsked begun (Claim p n) claim_reply (λ answer. []) old result new
InletAsks begun p old (WritesOne s event result) new = IsAsked begun (Write p s event) (unit_reply Written) (λ answer. []) old result new
InletAsks begun p old (WritesMany lo events wrote) new = AreWritten begun p lo events wrote × (new ≡ after_calls (writes_asked p lo events wrote) old)
InletAsks begun p old (PublishesStretch lo hi result) new = IsAsked begun (Publish p lo hi) (unit_reply Published) (λ answer. []) old result new

-- of the handler h
abbrev pub OutletAsks : {E : Type 0} → History E → ℕ → EndView E → OutletCall E → EndView E → Type 0
OutletAsks begun h old (PollsInto before after result) new = IsAsked begun (Poll h (length before)) poll_reply (λ answer. polled answer after) old result new
OutletAsks begun h old (CompletesBelow upto result) new = IsAsked begun (Complete h upto) (unit_reply Completed) (λ answer. []) old result new
