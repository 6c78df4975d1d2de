pub mod Handing
pub mod Ways
pub mod Calls
pub mod WordCalls
