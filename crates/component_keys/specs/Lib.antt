pub mod Tests
pub mod Components
pub mod Structures
pub mod Keys
pub mod Laws
