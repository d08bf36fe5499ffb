-- Lemmas of states: numbers, runs and tries of taken chunks, tables, and what a sound stack says about their devices.
pub mod ResolvedLines
pub mod GrowLemmas
pub mod Numbers
pub mod RunLemmas
pub mod TableLemmas
pub mod TrieLemmas
pub mod WithinPlaces
