mod EntryForms
mod FoundEntries
mod HeldTrees
mod JudgedLists
mod SmallObjects
