-- What the contracts of this crate speak of: the words of a line, the keys, values and pieces that
-- lines name, questions, trees, states, cells, and whole reports.
pub mod Words
pub mod KeyLines
pub mod QuestionLines
pub mod TreeLines
pub mod StateLines
pub mod Reports
pub mod examples
pub mod internal
