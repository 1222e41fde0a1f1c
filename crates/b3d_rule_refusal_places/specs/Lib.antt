-- Where in a file the nesting table says no, and where its colours stand, by the headers of its chunks.
pub mod ByHeaders
pub mod GivenByTable
pub mod GivenAtColours
