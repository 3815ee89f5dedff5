pub mod Decimal
pub mod Laying
pub mod Steps
pub mod Told
