-- The tests of a loaded state that together are the soundness of an area (document 01, "Areas"), in the order in which they are
-- made. They only read what is tested.
-- Here are the definitions that its contracts cite, by module. Assumes nothing.
--
-- rows        the tests of words that those of rows are made of
-- sound       all tests together are the soundness of the definitions: statements and proofs only
-- kinds       the kinds of the entries, on names and roots that are computed
-- entries     same-as, and with it all tests of values and of pairs of entries

pub mod rows
pub mod sound
pub mod kinds
pub mod entries
