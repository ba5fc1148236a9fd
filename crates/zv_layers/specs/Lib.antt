pub mod Columns
pub mod Laws
pub mod Refusals
pub mod Requests
pub mod Walks
