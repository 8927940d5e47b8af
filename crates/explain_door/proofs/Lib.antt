-- What C is told of why a domain was refused.
pub mod ExplainTelling
