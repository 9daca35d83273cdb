-- The values of the terms of a book with bindings: what each term stands for, whether a variable occurs in a value, and the name
-- of each value, the lowest term that has it.
-- Here are the definitions that its contracts cite, by module. Assumes nothing.
--
-- term      the book and the bindings in terms
-- order     the terms in an order in which all that a value is made of comes first
-- roots     what each term stands for, and whether a variable occurs in a value
-- names     the name of every term, by classes of terms along that order
-- evaluate  all three of a book with bindings

pub mod term
pub mod order
pub mod roots
pub mod names
pub mod evaluate
