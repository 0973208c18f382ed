pub mod Board
pub mod Halving
pub mod Posts
pub mod Row
pub mod Rows
pub mod Slides
