-- Proofs about the functions of a module are kept under the module's path.
-- The modules below are public for crates above, which see no folder of a private module.
pub mod Lists
pub mod Std
pub use Rattle.dm_table.proofs.io.Growth
pub use Rattle.dm_table.proofs.io.WriteLemmas
pub use Rattle.dm_table.proofs.load.FaultLemmas
pub use Rattle.dm_table.proofs.requests.RequestLemmas
pub use Rattle.dm_table.proofs.tables.ConciseDescribed
pub use Rattle.dm_table.proofs.tables.DiskLemmas
pub use Rattle.dm_table.proofs.tables.TableDescribed
pub use Rattle.dm_table.proofs.words.ByteLemmas
pub use Rattle.dm_table.proofs.words.MarkLemmas
pub mod Prelude
