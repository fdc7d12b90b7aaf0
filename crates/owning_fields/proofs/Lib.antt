pub mod OwningLaws
