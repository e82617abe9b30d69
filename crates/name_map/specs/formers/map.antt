-- For the clauses within the crate: the places of values in the types of the file map.
pub mod NameMap
