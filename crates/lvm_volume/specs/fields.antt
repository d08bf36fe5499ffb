-- The fields of a metadata text that are read, and the faults of these fields.
pub mod Checks
pub mod Fields
pub mod Kinds
pub mod Steps
