pub mod ListLemmas
pub mod RegionLemmas
pub mod SlotLemmas
