pub mod Begins
pub mod Patterns
pub mod Stops
pub mod Words
