pub mod None
pub mod Unroll
pub mod Padded
