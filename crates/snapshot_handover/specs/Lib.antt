pub mod Handover
pub mod Reads
pub mod Snapshots
pub mod Status
pub mod StatusRead
pub mod Willing
