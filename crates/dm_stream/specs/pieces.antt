-- The fewest pieces that cover given units, and the lines of these pieces.
pub mod DiskText
pub mod Join
pub mod LineEnds
pub mod NumberPrefix
pub mod Pending
pub mod PieceText
pub mod Pieces
pub mod RangeText
