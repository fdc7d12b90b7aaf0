pub mod HierarchyLaws
pub mod Supers
pub mod NameLaws
