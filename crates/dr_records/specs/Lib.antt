pub mod Records
pub mod Rows
pub mod TextReader
pub mod Resuming
pub mod Stream
