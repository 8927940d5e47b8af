-- The demands, about what the jobs leave in the lists that they were lent.
pub mod Demands
