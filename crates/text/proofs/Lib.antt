pub mod Writing
pub mod Signless
pub mod Printed
