-- What a host has of demand 3, of what is wanted of touches, of the two calls in a row, of the known lean and of the firm footing: definitions. `proofs/` has the proofs.
pub mod Demands
pub mod Touches
pub mod Rows
pub mod Leans
