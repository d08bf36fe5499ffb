-- Lemmas of lines: finding them, their spans, stripes and legs, the layout of stores, and the snapshots of an origin.
pub mod BucketLemmas
pub mod ByDevice
pub mod ChunkSizes
pub mod Inverses
pub mod LegLemmas
pub mod LineSearchLemmas
pub mod Members
pub mod OverLemmas
pub mod OwnSnapshot
pub mod SameLine
pub mod SpanLemmas
pub mod StoreLayoutLemmas
pub mod StripeLemmas
