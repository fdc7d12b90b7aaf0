pub mod Words
pub mod MissingNames
pub mod Steps
pub mod Reports
