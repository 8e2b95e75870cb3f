pub mod Machine
pub mod Cases
pub mod Figures
