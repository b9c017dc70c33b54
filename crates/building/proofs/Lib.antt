pub mod WordLaws
pub mod LeafLaws
pub mod LaidLaws
pub mod ViewLaws
pub mod ReadyLaws
pub mod Unique
