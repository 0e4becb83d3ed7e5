pub mod RoomLaws
pub mod OpenLaws
