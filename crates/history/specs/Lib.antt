pub mod Events
pub mod Steps
pub mod Demand
pub mod Promise
