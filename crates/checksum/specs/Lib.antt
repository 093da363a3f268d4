pub mod Bech32
pub mod Finish
