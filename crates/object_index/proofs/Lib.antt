pub mod AliasLaws
pub mod IndexLaws
mod RowLaws
