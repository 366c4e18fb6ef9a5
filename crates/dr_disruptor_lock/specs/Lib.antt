pub mod Watching
pub mod Jobs
pub mod Serving
pub mod Running
pub mod Joining
