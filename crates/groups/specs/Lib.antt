pub mod CountedLines
pub mod GroupFields
pub mod Laws
