pub mod Grammar
pub mod Numbers
pub mod Orders
pub mod Words
