pub mod laws
pub mod pieces
pub mod requests
pub mod runs
pub mod Base
pub mod Prelude
