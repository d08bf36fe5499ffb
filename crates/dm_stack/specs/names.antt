-- Names of devices and disks: an index of names, and finding the name at the front of a text.
pub mod NameIndex
