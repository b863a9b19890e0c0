pub mod DecidedTruths
pub mod UncutPieces
