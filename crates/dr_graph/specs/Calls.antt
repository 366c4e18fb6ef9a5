-- What public contracts cite besides: what a call answers, and the faults by number and name.
pub mod Answer
pub mod Fault
