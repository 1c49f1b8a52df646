pub mod Begins
pub mod Front
pub mod Joins
pub mod Laws
pub mod Skimmed
pub mod Skims
pub mod Steps
pub mod Unread
