pub mod Orders
pub mod Days
