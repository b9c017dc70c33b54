pub mod BitsLaws
pub mod PutLaws
pub mod LaidLaws
