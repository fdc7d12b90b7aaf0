mod FileNames
mod InputNumbers
pub mod Results
