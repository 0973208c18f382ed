pub mod Bytes
pub mod Class
pub mod Code
pub mod Place
pub mod Text
pub mod Number
pub mod Order
pub mod Decimal
