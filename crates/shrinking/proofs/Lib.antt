-- What is admitted stays so where strays and margins shrink, so one admitted t before a refused t+1 is the largest; and the explanation is what the
-- request's words ask for.
pub mod Rule
pub mod Run
pub mod Falls
pub mod Parts
pub mod Explained
