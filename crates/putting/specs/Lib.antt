-- What putting fields and writing a formula ask and leave.
pub mod Putting
pub mod Writing
