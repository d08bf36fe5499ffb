pub mod BlockLemmas
pub mod ByteLemmas
pub mod FilledLemmas
pub mod Prelude
