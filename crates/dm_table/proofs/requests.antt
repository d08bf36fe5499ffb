-- Lemmas about request lines.
pub mod FrontRequest
pub mod RequestLemmas
