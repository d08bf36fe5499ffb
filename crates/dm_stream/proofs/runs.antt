-- Lemmas about runs: the requests played before them, and what they write.
pub mod EarlierPlayed
pub mod RequestMapped
pub mod Runs
