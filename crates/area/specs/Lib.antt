-- An area's bytes and the state that they hold: the state loaded, the test whether an area of any bytes is sound, and a state
-- stored.
-- Here are the definitions that its contracts cite, by module. Assumes nothing.
--
-- load  the header and the words of each part, loaded and tested in parts
-- save  a state stored into an area, and a book just opened

pub mod load
pub mod save
