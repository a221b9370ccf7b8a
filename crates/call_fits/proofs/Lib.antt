mod CountLaws
mod StatusLaws
mod NodeLaws
mod FileLaws
mod ZeroLaws
mod TreeLaws
