pub mod FirstOnes
pub mod CommandFronts
