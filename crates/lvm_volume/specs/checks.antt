-- The checks of a group that come after those of its fields: what segments refer to, how extents are used, and snapshots.
pub mod Extents
pub mod SegmentCheck
pub mod Used
