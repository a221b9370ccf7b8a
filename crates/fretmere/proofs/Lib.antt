pub mod Panel
mod WordLaws
