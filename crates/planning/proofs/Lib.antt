pub mod Refusing
pub mod Asking
pub mod Trying
pub mod Stacks
pub mod Ranges
pub mod Starting
