pub mod RisingLines
pub mod ChangedLines
pub mod LeakLaws
