-- Walks down a stack: what a read or a write of sectors does on each device that it passes, and what
-- contracts promise for the code of a walk.
pub mod Bound
pub mod Chunk
pub mod Home
pub mod Homes
pub mod Levels
pub mod Mapping
pub mod Path
pub mod Range
pub mod Reads
pub mod Serving
pub mod SnapshotWrites
pub mod Steps
pub mod Stretch
