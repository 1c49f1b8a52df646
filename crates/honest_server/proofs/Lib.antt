pub mod Examples
pub mod Joined
pub mod Guarded
pub mod Alone
