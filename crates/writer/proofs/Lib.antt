pub mod ScriptLaws
pub mod WritesLaws
pub mod Unique
pub mod Exact
