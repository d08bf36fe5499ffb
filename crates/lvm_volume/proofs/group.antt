-- Lemmas about what a group's sections say.
pub mod OwnersLemmas
pub mod PhysicalLemmas
pub mod PositionLemmas
pub mod RoleLemmas
pub mod SegmentLemmas
pub mod StripeLemmas
pub mod TextLemmas
