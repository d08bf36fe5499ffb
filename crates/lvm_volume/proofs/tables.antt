-- Lemmas about the devices that are made from a group, and about their names.
pub mod MadeLemmas
pub mod NamedLemmas
