-- Finding the line of a sector, what lies below the sector, and the layout of exception stores.
pub mod Below
pub mod ResolvedColumns
pub mod Leg
pub mod LineSearch
pub mod Over
pub mod Span
pub mod StoreLayout
pub mod StripePosition
