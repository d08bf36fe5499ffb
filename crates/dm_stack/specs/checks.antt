-- The checks of a load, which `Soundness` lists in the order in which they run.
pub mod BadLines
pub mod Depth
pub mod Graph
pub mod Paths
pub mod Snapshots
pub mod Soundness
pub mod Store
pub mod StoreLimit
