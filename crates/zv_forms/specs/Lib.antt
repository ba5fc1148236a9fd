pub mod Again
pub mod Maps
pub mod Maps2d
pub mod Tables
pub mod Texts
pub mod Vectors
