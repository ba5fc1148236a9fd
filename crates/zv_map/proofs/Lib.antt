pub mod Common
pub mod FixedLists
pub mod Flexes
pub mod Permuted
pub mod Pieces
pub mod Places
pub mod Ranges
