-- Proofs that the ghost members of impls give: what is written reads back. No reader has to believe
-- them.
pub mod ArraySpellings
pub mod Fields
pub mod Joined
pub mod NicheSpellings
pub mod OptionSpellings
pub mod PairSpellings
pub mod Spellings
pub mod Twins
pub mod Widths
