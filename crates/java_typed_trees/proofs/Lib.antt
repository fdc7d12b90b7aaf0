pub mod Parts
pub mod TreeLaws
