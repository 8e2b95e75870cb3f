pub mod Pages
pub mod Truth
pub mod Verdicts
