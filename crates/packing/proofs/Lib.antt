-- What the definitions of the packer entail, one subject a file.
pub mod Forms
pub mod Formats
pub mod RoundTrip
pub mod Packs
pub mod PackingGiven
pub mod Unpacks
pub mod Examples
pub mod Lengths
pub mod Left
