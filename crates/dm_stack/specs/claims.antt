-- Claims: the lower sectors that a line relies on, when two claims clash, and the search for clashes.
pub mod Claims
pub mod Naming
pub mod Sweep
