-- A book's bytes (docs/SPEC.md, "Bytes"): read into term rows, with the refusals in document 01's order, and term rows written
-- as a book.
-- Here are the definitions that its contracts cite, by module. Assumes nothing.
--
-- parse   a number, and the parts of a term, at a position of the bytes; what a reader's functions answer
-- decode  a book's bytes into term rows
-- unread  how far a book's bytes are read
-- encode  term rows into a book's bytes

pub mod parse
pub mod decode
pub mod unread
pub mod encode
