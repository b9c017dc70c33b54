pub mod Scanned
pub mod States
