-- The rows from a cursor that was moved on.
pub mod PastLaws
