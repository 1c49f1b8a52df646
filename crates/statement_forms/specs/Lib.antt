pub mod Form
pub mod Held
pub mod Insert
pub mod Number
pub mod Statement
pub mod Text
