-- Fields, names and numbers: how a line of text is cut into fields, and which fields are names or numbers.
pub mod Bytes
pub mod Fields
pub mod Marks
pub mod Name
pub mod Number
