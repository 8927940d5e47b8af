-- That the doubles are exact.
pub mod Exact
