-- What the parts of the search promise one another, and what is told of a domain.
pub mod Explaining
