mod AloneLaws
pub mod CallLaws
