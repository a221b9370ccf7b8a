mod SpreadLaws
