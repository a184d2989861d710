pub mod Laws
pub mod Leaves
pub mod BenchLaws
pub mod Unique
