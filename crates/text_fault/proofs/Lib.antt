pub mod UsageLaws
pub mod StartLaws
pub mod RoomLaws
pub mod FaultLaws
