pub mod Views
pub mod Meanings
pub mod Replies
pub mod States
pub mod Lent
