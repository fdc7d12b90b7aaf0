pub mod FrameLaws
pub mod TopLaws
