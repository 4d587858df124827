pub mod Written
pub mod Quoted
pub mod Put
pub mod Decimal
pub mod Lines
pub mod Whole
