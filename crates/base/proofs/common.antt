pub mod Sequences
pub mod Sieves
pub mod KeptLists
pub mod Zeros
pub mod Choices
