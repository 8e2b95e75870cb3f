pub mod Rows
pub mod Cell
pub mod Process
pub mod Faulty
pub mod Names
