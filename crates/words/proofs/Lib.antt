pub mod Scanning
pub mod Summing
pub mod Naming
