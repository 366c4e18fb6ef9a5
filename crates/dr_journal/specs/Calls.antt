-- What public contracts cite besides: a journal's parts, faults, what its calls leave, how a file is read and opened, events as records,
-- the handler, and what devices have.
pub mod Parts
pub mod Faults
pub mod Journals
pub mod Readers
pub mod Reading
pub mod Opening
pub mod Opened
pub mod Records
pub mod Handling
pub mod Writers
pub mod Memory
