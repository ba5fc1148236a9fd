pub mod Due
pub mod Room
pub mod Text
