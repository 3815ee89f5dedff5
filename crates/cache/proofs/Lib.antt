pub mod Lines
pub mod Sending
pub mod Counting
pub mod Unchanged
pub mod PutGet
pub mod Finds
pub mod Words
