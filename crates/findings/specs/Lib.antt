pub mod SoughtRequests
pub mod Marks
pub mod FindingsOf
