pub mod Asking
pub mod Marks
pub mod Positions
pub mod Served
pub mod Statuses
pub mod Steps
pub mod Willingness
pub mod Workers
