pub mod Apply
pub mod Cases
pub mod Run
pub mod Asked
pub mod ByBytes
pub mod Given
