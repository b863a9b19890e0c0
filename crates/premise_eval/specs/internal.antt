pub mod FormulaReading
pub mod NameReading
pub mod ColumnReading
pub mod Marks
