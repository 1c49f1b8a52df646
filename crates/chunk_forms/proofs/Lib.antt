pub mod Orders
pub mod Chunks
pub mod Cuts
pub mod KeyKinds
