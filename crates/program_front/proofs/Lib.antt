pub mod InTurnLaws
