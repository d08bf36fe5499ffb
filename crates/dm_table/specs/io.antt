-- The histories of inputs and outputs, and how reads, writes and flushes change a history.
pub mod Block
pub mod DeviceIo
pub mod Gathered
pub mod LittleEndian
pub mod Progress
pub mod Sectors
pub mod ShortIo
pub mod WriteAll
