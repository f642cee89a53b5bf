pub mod Laws
pub mod Used
pub mod Family
pub mod FamilyLaws
