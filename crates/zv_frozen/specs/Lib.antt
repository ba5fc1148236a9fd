pub mod Argument
pub mod Faults
pub mod Keys
pub mod Laws
pub mod Placed
pub mod RequestLines
pub mod Requests
pub mod Tables
