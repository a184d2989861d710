-- How the code goes about a call. Nobody needs to believe these: the assembler's contracts do not cite them, and its proofs show that they come to its steps.
pub mod Search
pub mod Plan
