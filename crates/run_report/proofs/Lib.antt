mod LineLaws
pub mod RoomLaws
mod SpokenLaws
