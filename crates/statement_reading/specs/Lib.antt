pub mod Parts
pub mod Slots
pub mod InsertReading
pub mod Kinds
pub mod Readings
