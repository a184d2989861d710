pub mod RoundTrip
pub mod SentFrames
pub mod FrameCounts
pub mod Message
pub mod Agreement
