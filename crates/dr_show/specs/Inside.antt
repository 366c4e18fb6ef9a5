-- What the functions inside promise one another.
pub mod Sequences
pub mod Seen
pub mod Objects
pub mod Courses
pub mod Pages
