pub mod Pick
pub mod Answer
pub mod Lists
pub mod OneWalk
