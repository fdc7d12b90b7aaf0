pub mod DraftedHeaps
