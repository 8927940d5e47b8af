-- What C sees of the card of static margins.
pub mod CardDoors
