use Rattle.std.proofs.Common.{◌≡◌, ◌+◌, ◌≤◌, length, take, drop, ◌++◌, vec_capacity}
use Rattle.dr_meaning.specs.Meaning.Machine.{State}
use Rattle.dr_meaning.specs.Meaning.Transcript.{Transcript, LeadsTo}
use Rattle.dr_core.specs.Calls.Shows.{Shows}
use Rattle.dr_core.specs.Calls.Reached.{RunsTo}
use Rattle.dr_meaning.specs.Meaning.Runs.{transcript_of, counts_of, needed}
use Rattle.dr_core.proofs.runs.run.Given as goal

abbrev pub invariant-loop-command : goal.invariant-loop-command
invariant-loop-command g l = record {
  same : l.core.setup ≡ l.fn.core.setup;
  names : l.core.names ≡ l.fn.core.names;
  room : length l.buffer.items ≡ l.fn.core.setup.size;
  told : length l.replies.items ≡ l.command-index;
  counted : length l.values.items ≡ counts_of l.replies.items;
  reply_room : length l.commands ≤ vec_capacity l.replies;
  value_room : length l.values.items + needed (drop l.command-index l.commands) l.fn.core.setup.size ≤ vec_capacity l.values;
  runs : (t : Transcript g.row.E.Denot) (m : State g.row.E.Denot) → LeadsTo l.fn.core.setup t m → Shows l.fn.core m → RunsTo l.fn.core.setup (t ++ transcript_of (take l.command-index l.commands) l.replies.items l.values.items) l.core;
}
