pub mod AttributeWords
pub mod Hours
pub mod PublicLaws
pub mod Tables
pub mod WordTables
