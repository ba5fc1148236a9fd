pub mod Faults
pub mod Lengths
pub mod NoPlacements
pub mod Puts
pub mod Refusals
