pub mod Narrowed
pub mod Bounds
pub mod NarrowCalm
pub mod Promised
pub mod BackendsCalm
