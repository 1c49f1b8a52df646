mod Numbers
pub mod Responses
mod Sizes
mod Xors
