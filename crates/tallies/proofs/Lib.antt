pub mod TallyLaws
pub mod QueueLaws
