-- What request lines describe.
pub mod RequestLine
