pub mod KeyTexts
pub mod Words
