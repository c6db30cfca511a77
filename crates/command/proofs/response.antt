-- The lemmas of response.
pub mod Listing
