pub mod LeavingLaws
pub mod TableLemmas
pub mod EqLemmas
pub mod PushLemmas
