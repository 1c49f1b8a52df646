pub mod Files
pub mod Making
pub mod Steps
pub mod Triggers
