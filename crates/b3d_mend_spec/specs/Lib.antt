-- What mending makes of a file: an edit of its bytes, and what the mended file holds.
pub mod Edits
pub mod Four
pub mod Pieces
pub mod Mend
pub mod Report
pub mod Answers
pub mod Walks
pub mod Trees
pub mod Mends
