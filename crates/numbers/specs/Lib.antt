pub mod Two
pub mod Bytes
pub mod Ranges
pub mod Decimal
