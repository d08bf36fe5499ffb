-- Tables, disk lists and path lists: which texts describe them, and which texts are written for tables.
pub mod CanonicalText
pub mod ConciseReading
pub mod ConciseText
pub mod DiskList
pub mod Extent
pub mod LineBody
pub mod LineHead
pub mod LineReading
pub mod PathList
pub mod Span
pub mod TableReading
pub mod TableText
