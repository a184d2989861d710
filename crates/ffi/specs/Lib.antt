pub mod Ids
pub mod Frames
pub mod Calls
pub mod Batches
pub mod BenchEntries
pub mod inner
