pub mod AliasLaws
pub mod MoveLaws
pub mod RowLaws
pub mod StageLaws
