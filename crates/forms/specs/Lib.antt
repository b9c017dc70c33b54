pub mod Readable
pub mod Width
