pub mod Tally
pub mod Fed
pub mod Cases
pub mod Run
