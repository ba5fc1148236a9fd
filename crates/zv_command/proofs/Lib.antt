mod Worked
pub mod Adding
pub mod Common
pub mod HexText
pub mod PartTexts
pub mod Sending
pub mod Telling
