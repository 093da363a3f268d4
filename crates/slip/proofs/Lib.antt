pub mod Below
pub mod Calls
pub mod Memory
pub mod Places
pub mod Sealing
