-- What the words of a graph are.
pub mod Names
pub mod Operators
pub mod Places
pub mod Actions
pub mod Arcs
pub mod Answers
