-- What public contracts cite besides: what an end shows, what its calls answer and leave, and how a handler is shown events.
pub mod Refusal
pub mod ClaimFault
pub mod OpenFault
pub mod Trouble
pub mod Replies
pub mod Handling
pub mod Calling
pub mod Ends
pub mod Filling
pub mod InPlaceInlets
pub mod InPlaceOutlets
