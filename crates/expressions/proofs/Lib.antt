pub mod NameLaws
pub mod PhraseLaws
