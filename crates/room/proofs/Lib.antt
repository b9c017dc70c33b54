pub mod RoomLaws
pub mod WrittenLaws
