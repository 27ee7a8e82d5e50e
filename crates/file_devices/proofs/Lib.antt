pub mod ShownDisks
