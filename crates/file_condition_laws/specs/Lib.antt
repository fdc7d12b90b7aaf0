pub mod TreesWithoutThis
