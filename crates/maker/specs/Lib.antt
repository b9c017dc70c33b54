pub mod Rows
pub mod Makes
pub mod Lays
