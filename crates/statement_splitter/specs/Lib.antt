pub mod Laws
pub mod Splits
pub mod State
