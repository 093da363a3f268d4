-- Facts with their proofs, which the fields and their ghost members take by name: nothing here is to be believed.
pub mod Binary
pub mod Gf32
pub mod Gf1024
pub mod Gf32768
pub mod Irreducible
