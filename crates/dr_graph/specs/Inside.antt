-- What builder, graph and group keep, and what contracts see of it.
pub mod KeptGraph
pub mod KeptBuilder
pub mod KeptGroup
