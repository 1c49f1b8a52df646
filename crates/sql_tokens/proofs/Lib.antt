pub mod Quotes
pub mod Tokens
pub mod Cuts
pub mod Lefts
