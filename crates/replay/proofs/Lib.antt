pub mod WithCommas
