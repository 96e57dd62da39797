pub mod Findings
pub mod Found
