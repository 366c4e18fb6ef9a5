-- How it is kept: seats at a table, fields, and what private functions promise.
pub mod Plans
pub mod Seats
pub mod Stations
pub mod Noted
pub mod Fits
pub mod Views
pub mod Making
pub mod Hands
pub mod Trades
pub mod Scans
pub mod Lending
pub mod Polling
pub mod Gathering
pub mod Finishing
pub mod Bringing
pub mod Leaving
