pub mod Mended
pub mod Table
