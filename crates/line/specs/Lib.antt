pub mod Line
pub mod Read
pub mod Messages
pub mod Cases
pub mod Starred
pub mod Placed
