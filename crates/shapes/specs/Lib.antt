pub mod Cut
pub mod Pieces
pub mod Picture
pub mod Many
