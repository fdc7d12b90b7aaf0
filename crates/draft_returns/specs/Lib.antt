pub mod DraftReturns
