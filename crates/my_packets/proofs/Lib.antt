pub mod Fronts
pub mod Joined
pub mod Packets
pub mod Passes
pub mod ReadBack
pub mod Skimming
pub mod Splits
