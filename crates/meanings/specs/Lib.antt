pub mod Meaning
pub mod Age
pub mod Cases
