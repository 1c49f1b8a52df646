pub mod Dump
pub mod Folder
pub mod Loading
pub mod Plan
pub mod Renamed
