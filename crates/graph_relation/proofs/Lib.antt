pub mod NodeLaws
pub mod FaultLaws
