-- How it is kept: seats at a table, fields, and what private functions promise.
pub mod Plans
pub mod Seats
pub mod Stations
pub mod Noted
pub mod Fits
pub mod Scans
pub mod Polling
pub mod Gathering
