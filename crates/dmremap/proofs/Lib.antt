mod AnswerLemmas
pub mod BegunLemmas
mod CommandLine
pub mod ExitLemmas
pub mod LoadLemmas
pub mod MapLemmas
mod EntryLemmas
mod MessageWords
mod ImagesLemmas
mod ListedLemmas
mod OneImages
mod PartsLemmas
pub mod OneOther
pub mod OneWhole
pub mod PrintLemmas
mod ReadLemmas
pub mod ReplayLemmas
mod TextLemmas
pub mod Prelude
