pub mod Times
pub mod Slacks
pub mod Start
