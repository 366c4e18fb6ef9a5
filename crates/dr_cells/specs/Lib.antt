pub mod Hold
pub mod Left
pub mod Lends
pub mod Owned
pub mod Tokens
