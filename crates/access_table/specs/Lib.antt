pub mod Permissions
pub mod AccessTable
pub mod Lines
