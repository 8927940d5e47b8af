-- What the program's input asks for, and what the numbers that it prints assure.
pub mod Printed
pub mod OnChart
pub mod OfTexts
