pub mod Rules
pub mod Recall
