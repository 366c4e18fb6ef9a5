-- What the contracts of the public calls cite, beside the meaning.
pub mod Listing
pub mod LockRuns
pub mod LockWorkers
pub mod Replayed
pub mod ReplayFaults
pub mod RingRuns
pub mod Sending
pub mod Workers
