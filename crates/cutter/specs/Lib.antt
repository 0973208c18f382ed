pub mod Feed
pub mod State
pub mod Told
pub mod Calls
pub mod Cases
pub mod Run
