pub mod Pieces
pub mod Scan
