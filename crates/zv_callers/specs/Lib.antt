pub mod Documents
pub mod Files
pub mod Images
pub mod Languages
pub mod Readers
