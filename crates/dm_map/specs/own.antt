-- What disks hold after requests, the laws that each top device behaves like a disk of its own, and when reads fail.
pub mod Ample
pub mod Contents
pub mod Cuts
pub mod Errors
pub mod Losses
pub mod Rows
pub mod Halts
pub mod Histories
pub mod Lists
pub mod Requests
pub mod Tops
pub mod Ways
