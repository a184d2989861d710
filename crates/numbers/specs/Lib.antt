pub mod Pool
pub mod Fives
pub mod Frames
pub mod Numbers
