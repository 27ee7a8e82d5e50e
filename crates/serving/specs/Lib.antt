pub mod Serving
pub mod Calls
pub mod Frames
pub mod Written
pub mod Inputs
