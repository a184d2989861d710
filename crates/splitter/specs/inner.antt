-- How the code goes about it. Nobody needs to believe this: no public promise names it.
pub mod Told
