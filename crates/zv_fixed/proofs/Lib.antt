pub mod Calls
pub mod ChunkEdits
