pub mod Ways
pub mod States
pub mod Cases
pub mod Feeds
pub mod Runs
pub mod Theorems
pub mod Unique
pub mod Examples
