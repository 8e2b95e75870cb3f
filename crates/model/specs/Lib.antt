pub mod Items
pub mod Laws
pub mod Lawful
pub mod Folds
