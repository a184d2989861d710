pub mod FrameLaws
pub mod ByteLaws
pub mod SplitLaws
pub mod Unique
