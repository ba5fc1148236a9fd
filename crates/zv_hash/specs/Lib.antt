pub mod Splitting
pub mod Placement
pub mod Chains
pub mod Filling
pub mod Refusals
pub mod Repeats
pub mod Rowed
pub mod Rows
