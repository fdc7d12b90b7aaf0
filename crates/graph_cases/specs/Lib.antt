-- What the contracts of cases of graphs speak of.
pub mod Answers
