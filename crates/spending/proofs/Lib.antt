pub mod TreeLaws
pub mod PlanLaws
pub mod CountLaws
