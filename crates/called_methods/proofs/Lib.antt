pub mod CallNames
