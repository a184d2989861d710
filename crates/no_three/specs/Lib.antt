pub mod NoThree
