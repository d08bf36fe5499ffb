-- Laws of the definitions, with their proofs. They are part of the specs, because types and traits cite them.
pub mod Earlier
pub mod Join
pub mod Mapped
