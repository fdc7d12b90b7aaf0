pub mod Table
pub mod Derives
pub mod ExpressionTrees
pub mod AnnotationTrees
pub mod StatementTrees
pub mod DeclarationTrees
