pub mod LogText
pub mod View
