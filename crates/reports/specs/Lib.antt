pub mod Report
pub mod Taken
pub mod Run
pub mod Printed
