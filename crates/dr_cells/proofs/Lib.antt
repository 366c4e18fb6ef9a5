pub mod Cases
pub mod Crosses
pub mod Deeds
pub mod Lending
pub mod Rights
pub mod Rows
pub mod Walk
