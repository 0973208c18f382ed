pub mod Text
pub mod Print
pub mod Asks
pub mod Example
pub mod RowText
pub mod Parts
