pub mod PossibleLaws
