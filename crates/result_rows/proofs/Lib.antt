pub mod Fronts
pub mod ResultSets
pub mod Walks
pub mod Turns
