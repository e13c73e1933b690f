pub mod Listings
pub mod Drafts
