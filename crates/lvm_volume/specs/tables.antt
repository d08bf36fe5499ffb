-- The checks of a group in order, and the devices and disks that a group becomes.
pub mod GroupRef
pub mod Tables
