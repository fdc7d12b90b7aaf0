mod Meanings
mod Library
pub mod Read
mod Results
mod Owners
mod TextFields
mod Trees
mod Laid
mod Written
pub mod Programs
pub mod Conditions
