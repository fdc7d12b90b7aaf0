pub mod BrokenLaws
pub mod FirstLaws
pub mod ListedLaws
