-- The laws of signed numbers, one subject a file.
pub mod Laws
pub mod Ring
pub mod Size
pub mod Floor
pub mod Order
pub mod Machine
pub mod Cases
pub mod Limits
pub mod Minus
