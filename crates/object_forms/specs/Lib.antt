pub mod Head
pub mod Place
pub mod Shape
pub mod Token
