-- Lemmas about the parts of a load, their checks and their faults.
pub mod FaultLemmas
pub mod Forms
pub mod Parsing
pub mod ReadRows
pub mod RowFaultLemmas
