pub mod Ends
pub mod Edge
pub mod Day
pub mod Desk
pub mod Options
