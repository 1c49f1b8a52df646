pub mod After
pub mod Agreements
pub mod Fronts
pub mod Matching
