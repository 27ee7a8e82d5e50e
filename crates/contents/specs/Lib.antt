pub mod Ops
pub mod Presence
pub mod ContentsShown
pub mod Judging
