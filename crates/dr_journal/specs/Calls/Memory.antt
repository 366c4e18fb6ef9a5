-- The bytes that a file in memory has.
use Rattle.std.specs.Prelude.{ℕ, List}
use Rattle.dr_journal.specs.declared.memory.MemoryDevice.{MemoryDevice}

abbrev pub memory_bytes : MemoryDevice → List ℕ
memory_bytes device = device.bytes.items
