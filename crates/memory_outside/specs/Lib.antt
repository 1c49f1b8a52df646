pub mod Memory
pub mod Moments
pub mod Replies
pub mod Script
