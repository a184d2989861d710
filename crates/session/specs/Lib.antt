pub mod Rules
pub mod Frames
pub mod Heads
pub mod Counting
pub mod Kinds
pub mod inner
