-- The state that requests leave for later ones: which chunks each snapshot's store holds, how the code
-- keeps these chunks, and how much of each store is used.
pub mod Counts
pub mod Fitting
pub mod Links
pub mod Runs
pub mod Snapshots
pub mod State
pub mod Tables
pub mod Trie
pub mod Usage
pub mod Walker
