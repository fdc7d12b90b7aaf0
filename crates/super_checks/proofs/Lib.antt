pub mod AmongLemmas
pub mod CoreLemmas
pub mod ExceptionLemmas
