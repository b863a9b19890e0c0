-- What the command `gen` comes to.
pub mod GeneratedText
pub mod internal
