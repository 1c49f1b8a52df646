pub mod After
pub mod Members
pub mod Parts
pub mod Step
