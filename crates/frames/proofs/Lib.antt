pub mod Steps
pub mod Fields
pub mod CallsRead
pub mod RequestsRead
pub mod FramesRead
pub mod Loop
pub mod Appended
