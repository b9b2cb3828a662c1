pub mod Rows
pub mod Groups
pub mod Orders
pub mod Lawful
pub mod Scales
pub mod Given
pub mod Spans
pub mod Measures
