-- What the definitions of packing a text entail.
pub mod Stepwise
pub mod Tested
pub mod Said
pub mod Given
pub mod Left
