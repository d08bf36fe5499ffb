-- The lines in the bytes that an input delivered, and the requests in these lines.
pub mod Batch
pub mod Lines
pub mod NextHeld
pub mod Requests
