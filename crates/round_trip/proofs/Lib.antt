pub mod Accepted
pub mod RoundTrip
pub mod Slices
pub mod Wide
pub mod Exactly
