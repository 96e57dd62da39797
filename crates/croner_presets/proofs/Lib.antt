mod Examples
mod Items
mod Splits
mod Told
