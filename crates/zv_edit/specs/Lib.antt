pub mod Answers
pub mod Laws
pub mod Output
pub mod Requests
