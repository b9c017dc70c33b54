pub mod SaidLaws
pub mod AfterLaws
pub mod RowLaws
pub mod EachLaws
pub mod BoundLaws
