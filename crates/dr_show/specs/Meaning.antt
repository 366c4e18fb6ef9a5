-- What a page has of a file of commands: the first to read.
pub mod Texts
pub mod StateText
pub mod PageText
pub mod Shown
