-- What writing into a lent output means.
pub mod Writing
