pub mod Phrases
pub mod Sizes
pub mod Pieces
