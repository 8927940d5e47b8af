-- Document 01's rules as definitions, in its order, with those of the requests.
pub mod Numbers
pub mod Values
pub mod Reciprocals
pub mod Operation
pub mod Steps
pub mod Plain
pub mod Balls
pub mod Matryoshki
pub mod Lists
pub mod Exact
pub mod Figures
