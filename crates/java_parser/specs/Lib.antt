pub mod FileTrees
