pub mod Checks
pub mod Tallies
pub mod Rows
pub mod Ready
