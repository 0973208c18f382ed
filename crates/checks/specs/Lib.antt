pub mod Check
pub mod Feed
pub mod Part
pub mod Run
