-- The calls with the office's limits, on bytes of any kind: each has the arrays of the office's sizes that it works in. Only
-- `opening` and `steps` change an area.
-- Here are the definitions that its contracts cite, by module. Assumes nothing.
--
-- read     an area read into arrays, for the calls that show what it holds
-- opening  a book opened in an area
-- entry    an entry of an area

pub mod read
pub mod opening
pub mod entry
