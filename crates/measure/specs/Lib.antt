pub mod Scale
pub mod Measures
pub mod Pairs
pub mod Laws
