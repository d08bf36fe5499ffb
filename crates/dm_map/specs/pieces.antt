-- The operations that a request becomes, sector by sector (units) and as ranges (pieces), and the sink that receives
-- the pieces.
pub mod PieceList
pub mod Sink
pub mod Units
