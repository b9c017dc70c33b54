pub mod LineLaws
pub mod LinesLaws
pub mod ZeroLaws
pub mod LayLaws
pub mod MakeLaws
pub mod Exact
pub mod Unique
