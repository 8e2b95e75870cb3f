pub mod Walks
pub mod Worked
