pub mod Cell
pub mod Literal
pub mod Name
pub mod Number
pub mod Spelling
