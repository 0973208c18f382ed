pub mod Parts
pub mod DayFile
pub mod Opening
pub mod Keeping
pub mod Walk
pub mod Windows
pub mod Cases
pub mod Run
