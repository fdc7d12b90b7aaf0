pub mod NumberSearch
