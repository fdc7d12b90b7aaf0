pub mod DraftLines
pub use Rattle.ledger_entries.specs.Entries
