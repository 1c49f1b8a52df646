pub mod EndedChunks
