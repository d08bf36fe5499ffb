-- Lemmas of claims: which of them clash, and the devices that nothing claims.
pub mod Apart
pub mod MeetLemmas
pub mod PairLemmas
pub mod Parts
pub mod SweepLemmas
pub mod TidyLemmas
pub mod TopLemmas
