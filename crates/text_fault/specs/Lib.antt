pub mod Expected
pub mod Places
