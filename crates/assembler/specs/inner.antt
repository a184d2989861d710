-- How the code goes about the call. Nobody needs to believe these: only private contracts cite them.
pub mod Forms
