pub mod Meant
pub mod TableTest
pub mod Sense
mod FrontTreeLaws
mod ParsingLaws
