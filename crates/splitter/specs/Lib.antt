pub mod Frames
pub mod Bytes
pub mod Split
pub mod inner
