pub mod LoopLaws
