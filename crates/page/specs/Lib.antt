pub mod Pages
pub mod Texts
pub mod Rows
pub mod Reports
