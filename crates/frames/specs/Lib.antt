pub mod Limits
pub mod Requests
pub mod Reading
pub mod Answers
pub mod Openings
pub mod Laws
