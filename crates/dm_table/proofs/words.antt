-- Lemmas about fields, names and numbers.
pub mod ByteLemmas
pub mod FieldLemmas
pub mod LaneDigits
pub mod MarkLemmas
pub mod NumberLemmas
pub mod WordLemmas
