-- Lemmas of pieces and of the sinks that receive them.
pub mod LegUnits
