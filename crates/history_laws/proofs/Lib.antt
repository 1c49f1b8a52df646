pub mod Apart
pub mod Balance
pub mod Drops
pub mod Objects
pub mod Rows
pub mod Steps
