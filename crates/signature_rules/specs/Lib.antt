pub mod OwnerCases
pub mod RulePasses
pub mod TextCases
pub mod TextFieldCases
pub mod ResultCases
