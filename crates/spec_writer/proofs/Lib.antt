pub mod Files
pub mod ReadBack
pub mod Again
