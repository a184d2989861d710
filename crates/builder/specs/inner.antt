-- How the code goes about a frame's bytes. Nobody needs to believe this: only private contracts cite it, and the proofs show that it comes to the frames of steps 5 and 6.
pub mod Placed
pub mod Laid
