-- For the clauses within the crate: the places of values in the types that hold them.
pub mod map
