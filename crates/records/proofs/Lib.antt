pub mod NameLaws
pub mod VariableLaws
pub mod StepLaws
pub mod Unique
