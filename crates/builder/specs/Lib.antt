pub mod FrameBytes
pub mod inner
pub mod Builder
pub mod Next
pub mod Frames
