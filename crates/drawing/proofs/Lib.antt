pub mod Crossings
pub mod Within
pub mod Verdicts
pub mod Listed
mod Numerals
