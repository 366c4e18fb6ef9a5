pub mod Event
pub mod Size
pub mod Slots
pub mod Rounds
pub mod Stamped
