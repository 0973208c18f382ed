pub mod Body
pub mod Allowed
pub mod Read
pub mod Named
pub mod Levels
pub mod Reading
pub mod Lacks
