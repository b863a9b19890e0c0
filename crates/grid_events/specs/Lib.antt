pub mod BlockCells
