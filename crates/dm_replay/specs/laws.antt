-- Laws of the definitions, with their proofs. They are part of the specs, because types and traits cite them.
pub mod Halt
pub mod OfDisks
pub mod Play
