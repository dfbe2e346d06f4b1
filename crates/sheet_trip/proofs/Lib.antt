-- Laws on the round trip.
pub mod Trip
