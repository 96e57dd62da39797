pub mod Annotations
pub mod Json
pub mod Sarif
pub mod SarifForm
