-- What the printing of counts asks of its caller.
pub mod Room
