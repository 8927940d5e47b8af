-- What the proofs of several steps share.
pub mod Units
pub mod Linear
pub mod Products
pub mod Remainders
