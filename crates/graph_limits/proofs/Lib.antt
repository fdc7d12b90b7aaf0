pub mod Counting
pub mod FieldRooms
pub mod BirthCounts
pub mod StepRooms
pub mod PairLaws
pub mod SignedLaws
