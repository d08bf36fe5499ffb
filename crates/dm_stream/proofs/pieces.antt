-- Lemmas about joining pieces, and about their texts.
pub mod FewestLemmas
pub mod FitsLemmas
pub mod JoinLemmas
pub mod LastDigit
pub mod PieceLemmas
pub mod RowLemmas
