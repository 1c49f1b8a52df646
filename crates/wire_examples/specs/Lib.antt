pub mod Commas
pub mod Logins
pub mod Packets
pub mod Replies
pub mod ResultSets
pub mod Versions
