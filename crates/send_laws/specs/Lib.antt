pub mod Parts
pub mod Message
pub mod Agreement
