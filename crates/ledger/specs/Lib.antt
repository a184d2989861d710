pub mod Ledger
pub mod Demand2
pub mod Demand3
pub mod Runs
pub mod Rows
pub mod Assemblers
pub mod Names
pub mod SetBack
