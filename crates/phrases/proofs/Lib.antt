pub mod DecimalLaws
pub mod NameValueLaws
