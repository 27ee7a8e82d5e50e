pub mod Answers
pub mod Commands
pub mod Copies
pub mod Letters
pub mod Numbers
pub mod Shapes
pub mod Words
