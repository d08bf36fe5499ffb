pub mod FoundLemmas
pub mod LabelLemmas
pub mod TextLemmas
pub mod HeadsLemmas
pub mod BoundLemmas
pub mod SumLemmas
pub mod LawLemmas
pub mod Prelude
