pub mod Frames
pub mod Displacements
pub mod Faults
pub mod Read
pub mod Laws
