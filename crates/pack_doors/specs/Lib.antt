-- What C sees of the packer and of reading back.
pub mod PackDoors
