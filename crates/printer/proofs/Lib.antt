pub mod LineLaws
pub mod TextLaws
pub mod PrintLaws
pub mod Short
pub mod Exact
