pub mod Leading
pub mod Beginnings
pub mod Scanning
pub mod Unique
