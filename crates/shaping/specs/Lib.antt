pub mod PlantedBlock
