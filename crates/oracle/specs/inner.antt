-- How the code goes about it. Nobody needs to believe these: no public promise names one.
pub mod Frames
pub mod Scan
pub mod Tx
