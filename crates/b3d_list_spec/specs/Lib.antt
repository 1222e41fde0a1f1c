-- What the lister prints.
pub mod Listing
