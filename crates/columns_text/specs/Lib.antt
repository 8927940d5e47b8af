-- The three jobs on reading lines: what is printed, and the columns that are read.
pub mod JobLines
pub mod ColumnsRead
