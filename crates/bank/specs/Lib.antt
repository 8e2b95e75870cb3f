pub mod Bank
pub mod Laws
pub mod Drive
