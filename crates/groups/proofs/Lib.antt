pub mod HoldCounts
pub mod ExactHolds
pub mod NamesApart
