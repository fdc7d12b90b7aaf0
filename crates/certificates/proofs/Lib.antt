pub mod Faultless
mod VerdictLaws
