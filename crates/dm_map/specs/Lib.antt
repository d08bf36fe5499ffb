pub mod Mapper
pub mod laws
pub mod own
pub mod pieces
pub mod state
pub mod walk
pub mod Prelude
pub mod Base
