pub mod Alike
pub mod Feeds
pub mod Replaced
pub mod Sizes
pub mod Bech32Laws
pub mod FinishLaws
