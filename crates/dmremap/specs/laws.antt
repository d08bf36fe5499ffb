-- Laws of the definitions, with their proofs. They are among the specs because types and traits cite them.
pub mod Played
