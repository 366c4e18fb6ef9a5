pub mod Answering
pub mod Graphs
pub mod Refusing
pub mod Rounds
pub mod Sending
