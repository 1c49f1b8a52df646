pub mod ChunkRows
