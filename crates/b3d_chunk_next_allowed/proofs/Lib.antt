-- Its laws, and those of the chunks that a cursor has left.
pub mod PermitLaws
pub mod InsideLaws
pub mod RestLaws
