pub mod RowLaws
pub mod Answers
pub mod TryLaws
pub mod GivenLaws
pub mod Unique
pub mod Exact
pub mod Believed
