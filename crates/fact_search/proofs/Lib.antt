pub mod SearchedLaws
