-- Proved laws about the definitions, which are kept with the specs because types and traits cite them.
pub mod NameLaws
pub mod Progress
