pub mod Refusals
pub mod Outcomes
pub mod Edits
pub mod Marked
pub mod Borders
