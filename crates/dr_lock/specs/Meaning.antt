-- What a history and an audit are: read this first.
pub mod History
pub mod Audit
