pub mod Building
pub mod Hashed
pub mod Laws
pub mod Table
