-- Numbers that rows of items are measured by.
pub mod Widths
