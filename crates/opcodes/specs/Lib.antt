pub mod View
pub mod Class
pub mod Classes
