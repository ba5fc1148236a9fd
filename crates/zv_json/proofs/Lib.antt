pub mod Bytes
pub mod Characters
pub mod Decimals
pub mod Fields
pub mod Listed
pub mod NonZero
pub mod Sound
pub mod Wrote
