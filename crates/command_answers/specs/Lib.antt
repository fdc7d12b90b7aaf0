pub mod Sending
pub mod Statuses
pub mod Texts
