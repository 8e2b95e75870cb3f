pub mod Judged
pub mod Rowing
