pub mod FactLaws
pub mod SmallOperands
