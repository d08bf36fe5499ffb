-- Lemmas about inputs and outputs: what was written, and what a block contains.
pub mod BlockLemmas
pub mod Growth
pub mod Portions
pub mod WriteLemmas
