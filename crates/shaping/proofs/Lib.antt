pub mod Facts
pub mod PlantLaws
