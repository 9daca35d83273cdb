-- Books for the archive (docs/SPEC.md, "Stored book and its list"): stored with their variables first, beside the list of their terms' old
-- numbers, and restored.
-- Here are the definitions that its contracts cite, by module. Assumes nothing.
--
-- list     the terms of one kind, a list read from bytes, and the inverse of a list
-- moving   term rows moved to new numbers
-- storing  the slices that are lent for both calls, and the numbers that storing answers

pub mod list
pub mod moving
pub mod storing
