pub mod Decimal
pub mod Placed
