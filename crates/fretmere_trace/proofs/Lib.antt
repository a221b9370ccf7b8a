mod WordLaws
mod Apart
