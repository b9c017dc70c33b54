pub mod Hashes
pub mod Ready
