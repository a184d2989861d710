pub mod Sending
pub mod Receiving
pub mod Bench
pub mod NoThree
