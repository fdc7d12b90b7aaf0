pub mod PlacedLaws
pub mod DraftLaws
pub mod LinkLaws
pub mod RisingLaws
pub mod RootLaws
pub mod SettledLaws
