pub mod Cause
pub mod Contents
pub mod Folder
pub mod Link
pub mod Reports
pub mod Site
pub mod Unserved
