pub mod CommandFronts
