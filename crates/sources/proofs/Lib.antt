pub mod PlaceLaws
pub mod SourceLaws
pub mod Unique
