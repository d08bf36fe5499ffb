-- Lemmas about lines and requests that were delivered.
pub mod Batches
pub mod Fronts
pub mod HandledRequests
pub mod Held
pub mod LineParts
