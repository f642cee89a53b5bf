pub mod Automaton
pub mod Reading
pub mod Kinds
pub mod Laws
pub mod Faults
