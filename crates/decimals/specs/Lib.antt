-- Decimals that keep an honest margin: what they are, out of a ball, into a ball.
pub mod Units
pub mod Out
pub mod In
pub mod Figures
