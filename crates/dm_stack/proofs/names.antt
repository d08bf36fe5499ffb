-- Lemmas of names: their keys, and their indexes in lists.
pub mod KeyLemmas
pub mod NameLemmas
