pub mod EventFiles
pub mod Arrivals
pub mod Feeding
pub mod Carried
pub mod Decimals
pub mod Lines
pub mod Back
pub mod Pieces
