-- What the definitions of decimals entail, and what the functions' proofs cite.
pub mod Units
pub mod Out
pub mod In
pub mod Small
pub mod Through
pub mod OneRule
pub mod Scaled
pub mod Made
pub mod Figures
