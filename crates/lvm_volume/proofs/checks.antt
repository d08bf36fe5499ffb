-- Lemmas about the checks of a group, and about groups in which they find no fault.
pub mod FaultKinds
pub mod HoldLemmas
pub mod OriginLemmas
pub mod Sound
pub mod UsedLemmas
