-- What C sees of why a domain was refused.
pub mod ExplainDoors
