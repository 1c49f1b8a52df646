pub mod Key
pub mod Laws
pub mod Read
pub mod Slots
pub mod Store
