pub mod SpreadNotes
