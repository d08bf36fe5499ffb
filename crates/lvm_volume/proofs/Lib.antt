pub mod GroupLemmas
pub mod MetadataLemmas
pub mod NameLengths
pub mod OneGroup
pub mod OwnedLemmas
pub mod Splits
pub mod Prelude
