pub mod RoomSums
