pub mod Searching
pub mod Sweeps
