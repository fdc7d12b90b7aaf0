pub mod ChangeLaws
pub mod HeldLaws
pub mod NoteLaws
pub mod RangeLaws
pub mod ReachLaws
pub mod SetLaws
pub mod Walks
