-- What C sees of a reply.
pub mod Doors
