pub mod ChoiceLaws
pub mod NumberLaws
