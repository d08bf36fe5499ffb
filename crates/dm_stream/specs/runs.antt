-- What a run writes, the state it leaves, how it ends, and its message.
pub mod Earlier
pub mod Mapped
pub mod Messages
pub mod Outcome
pub mod Run
pub mod StatusLines
