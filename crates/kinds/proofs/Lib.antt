pub mod RowLaws
pub mod ClaimLaws
pub mod KindLaws
