pub mod PlaceLaws
pub mod StandLaws
pub mod LineLaws
pub mod SpanLaws
pub mod ColumnLaws
pub mod Worked
