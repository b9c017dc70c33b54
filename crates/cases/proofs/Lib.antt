pub mod TryLaws
pub mod Unique
pub mod Agreement
pub mod Exact
