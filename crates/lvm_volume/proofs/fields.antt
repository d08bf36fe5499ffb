-- Lemmas about the first fault of a check of fields, and about the steps of a reader.
pub mod Faults
pub mod Steps
pub mod TextLemmas
