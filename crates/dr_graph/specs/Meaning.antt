-- What is declared, and which graph it has: read this first.
pub mod Name
pub mod Declaration
pub mod Order
pub mod Graph
pub mod Placing
