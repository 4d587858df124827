pub mod Figures
pub mod Report
