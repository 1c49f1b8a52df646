pub mod Buffer
pub mod Byte
pub mod Cell
pub mod Lending
