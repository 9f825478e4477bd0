pub mod Turns
pub mod Improving
pub mod Conclusion
