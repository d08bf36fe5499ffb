pub mod Bytes
pub mod Filled
pub mod Message
pub mod Base
pub mod Prelude
