-- Laws that belong to no one function.
pub mod PageColumns
pub mod NotedDepths
pub mod WrittenLines
pub mod PageAnswers
