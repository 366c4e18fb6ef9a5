-- What public contracts cite: what an end is, and what its calls answer and leave.
pub mod Settling
pub mod Plans
pub mod Ends
pub mod Finds
pub mod Sending
pub mod Receiving
pub mod Inlets
pub mod Outlets
pub mod Making
pub mod Fault
pub mod Replies
pub mod Handing
