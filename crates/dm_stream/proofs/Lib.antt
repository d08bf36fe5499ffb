-- names that crates above cite, because a private module's folder is invisible to them
pub use Rattle.dm_stream.proofs.pieces.FewestLemmas
pub mod Prelude
