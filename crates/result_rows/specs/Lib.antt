pub mod RowCells
pub mod Turns
