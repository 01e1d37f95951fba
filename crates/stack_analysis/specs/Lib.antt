pub mod View
pub mod Entry
