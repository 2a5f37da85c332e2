-- What fields tell of words, tuples, moves, flows and stabilisers, and how these are written: a file a subject, with its reading and its text.
pub mod Repeated
pub mod Words
pub mod TupleFields
pub mod MoveFields
pub mod FlowFields
pub mod StabiliserFields
pub mod Laws
