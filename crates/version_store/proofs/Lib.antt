pub mod Alike
pub mod Filled
pub mod Kept
pub mod Keys
