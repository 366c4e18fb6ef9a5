-- What a replay sends, and through what.
pub mod Exchange
pub mod Scripts
