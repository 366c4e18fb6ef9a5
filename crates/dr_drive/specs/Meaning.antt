-- What a file of commands says: the first to read.
pub mod Causes
pub mod Setup
pub mod Commands
pub mod Lines
pub mod StateLine
pub mod DriveText
