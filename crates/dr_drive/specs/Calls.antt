-- What public calls cite.
pub mod Shows
pub mod Standing
