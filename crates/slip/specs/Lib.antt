pub mod Sealing
pub mod View
