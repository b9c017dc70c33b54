pub mod BeginLaws
pub mod MachineLaws
pub mod Definite
pub mod PatternLaws
pub mod FitLaws
pub mod WordLaws
pub mod ScanLaws
