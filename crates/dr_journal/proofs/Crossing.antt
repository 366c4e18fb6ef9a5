-- A device, a journal over one and the handler that writes it may go to another thread, where the device may: shown part by part, so
-- that the search for what holds one ends there.
use denote.RattleType.{RattleType}
use denote.Param.Send.{IsSend, sendable}
use Rattle.std.proofs.Crossing as std
use Rattle.dr_journal.specs.declared.device.Device.{Ghosts}
use Rattle.dr_journal.specs.contracts.file.FileDevice as FileDevice
use Rattle.dr_journal.specs.contracts.memory.MemoryDevice as MemoryDevice
use Rattle.dr_journal.specs.contracts.journal.Journal as Journal
use Rattle.dr_journal.specs.contracts.handler.Journaling as Journaling

ruleset parts = (sendable, std.crosses)

pub file_send : IsSend FileDevice.the_row
file_send = search parts depth 60 fits 20000

pub memory_send : IsSend MemoryDevice.the_row
memory_send = search parts depth 60 fits 20000

pub journal_send : (D : RattleType) → IsSend D → IsSend (Journal.the_row D)
journal_send D s = search parts depth 60 fits 20000

pub journaling_send : (D : RattleType) (g : Ghosts D.Denot) → IsSend D → IsSend (Journaling.the_row D g)
journaling_send D g s = search parts depth 60 fits 20000

-- for what holds them
pub ruleset crosses = (sendable, std.crosses, file_send, memory_send, journal_send, journaling_send)
