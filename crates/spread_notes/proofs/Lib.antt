pub mod NoteTurns
pub mod NewNotes
pub mod PlacedLaws
pub mod ObjectLists
pub mod SpreadLaws
