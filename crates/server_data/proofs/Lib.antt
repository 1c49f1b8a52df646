pub mod Counts
pub mod Equals
pub mod Orders
pub mod Patterns
