pub mod StatementActions
pub mod DeclarationActions
