mod PlaceLaws
mod WordLaws
mod ZeroLaws
