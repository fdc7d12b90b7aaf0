mod Bools
mod Words
mod Numbers
mod ChoiceTests
mod FollowTests
mod SymbolTests
mod Effort
mod Viable
mod Laws
mod Steps
mod ActionSteps
pub mod Runs
mod FrontLaws
