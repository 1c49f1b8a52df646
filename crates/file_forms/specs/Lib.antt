pub mod ColumnKind
pub mod DataFile
pub mod Refusal
pub mod SchemaFile
pub mod TableRows
