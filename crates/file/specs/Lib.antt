pub mod Tabled
pub mod Copied
pub mod Laid
pub mod Copies
pub mod Along
pub mod Shows
pub mod Table
