pub mod Form
pub mod Kind
pub mod Frame
pub mod Drawn
pub mod Level
