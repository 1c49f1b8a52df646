pub mod FileName
pub mod LoadOrder
pub mod Metadata
