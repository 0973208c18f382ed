pub mod Keep
pub mod Work
pub mod Lists
