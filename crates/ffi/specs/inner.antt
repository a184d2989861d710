-- How the code goes about it. Nobody needs to believe this: only private contracts cite it.
pub mod Batches
pub mod Calls
