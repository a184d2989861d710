-- How the code goes about a batch. Nobody needs to believe these: the public contract does not cite them.
pub mod Mirror
pub mod Walks
pub mod Ways
pub mod Room
