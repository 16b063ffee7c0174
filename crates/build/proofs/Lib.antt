pub mod PolicySizes
pub mod PolicyFrame
pub mod PolicyMachine
pub mod RawTable
pub mod BuildAnswers
