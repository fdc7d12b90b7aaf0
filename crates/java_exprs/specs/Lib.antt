pub mod Evaluation
pub mod SymbolKinds
pub mod FrontTrees
