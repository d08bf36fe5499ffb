-- Lemmas about tables, disk lists and path lists, and about their texts.
pub mod BodyRows
pub mod CanonicalConcise
pub mod CanonicalTable
pub mod ConciseDescribed
pub mod ConciseFaults
pub mod ConciseRows
pub mod DiskLemmas
pub mod PairRows
pub mod PathLemmas
pub mod PathPlaces
pub mod TableDescribed
pub mod TableFields
pub mod TableGroups
pub mod TableLines
pub mod TableRows
pub mod TargetRows
