pub mod FieldAt
pub mod RowsLeft
pub mod Resumed
