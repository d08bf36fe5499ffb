pub mod FittingLemmas
mod ImageLemmas
pub mod ListLemmas
pub mod ListedLemmas
pub mod LogLemmas
pub mod RestartLemmas
pub mod RowLemmas
pub mod SpellingLemmas
pub mod SpeltLemmas
pub mod StartLemmas
pub mod StateLemmas
pub mod StoreLemmas
pub mod WalkLemmas
pub mod WorkedRestart
pub mod WorkedStore
pub mod Prelude
