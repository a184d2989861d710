pub mod Copies
pub mod LaidLaws
pub mod NextLaws
pub mod Unique
pub mod Refusals
