-- Proved laws of trees: an inner section is smaller than the outer one, and a tree can be recovered from its code.
-- These laws are kept with the specs because the type of a section cites them.
pub mod TreeCode
pub mod TreeFalls
