pub mod ListLaws
pub mod OwnerLaws
pub mod ReleaseLaws
