pub mod SpotLaws
pub mod LineLaws
pub mod Blamed
pub mod ShortLaws
