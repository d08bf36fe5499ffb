-- The parts of a load: the result of reading a part, the checks of a part, and the faults of a load with their messages.
pub mod LoadFault
pub mod LoadMessage
pub mod Parsed
pub mod PartInput
pub mod Reading
pub mod RowFaults
