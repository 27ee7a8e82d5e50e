mod Copied
mod Ends
mod Held
mod Looks
mod Moved
mod RecordReads
mod Steps
mod Stopped
