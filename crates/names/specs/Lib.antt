pub mod Tables
pub mod View
