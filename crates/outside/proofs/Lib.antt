-- Lemmas on known bytes and on the files of a list.
pub mod Known
pub mod Findings
