-- Document 01, "How tight the contracts are": the wrong programs to try against the contracts; and two of request b and
-- three of request e, to try against the demands.
pub mod Wrong
pub mod Coefficients
pub mod Reciprocals
