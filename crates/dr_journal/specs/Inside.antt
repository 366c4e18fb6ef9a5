-- What stands behind the words of public contracts: what a scan keeps, and what devices keep.
pub mod Past
pub mod File
pub mod Reading
