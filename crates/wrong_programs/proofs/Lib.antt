-- Where the contracts and the demands refuse the wrong programs.
pub mod Stops
pub mod Loses
pub mod Divides
