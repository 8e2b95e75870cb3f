pub mod Faults
pub mod Texts
pub mod Bytes
pub mod Stations
pub mod Items
pub mod Kinds
pub mod Rows
pub mod Records
