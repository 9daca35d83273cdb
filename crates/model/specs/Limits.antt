-- The limits, each in one place (document 01, "Terms and values" and "Areas"; those of a single number are in crate leb128).
-- Assumes nothing: these are definitions.
use Rattle.std.specs.Prelude.{ℕ}

-- What shapes an area. The definitions take it as a parameter.
pub record Limits : Type 0 where
  -- terms in a book
  pub max_terms : ℕ
  -- the largest capacity, in entries
  pub max_capacity : ℕ
  -- lines
  pub max_lines : ℕ

-- The limits of the office's calls.
abbrev pub office : Limits
office = record { max_terms = 1024; max_capacity = 2048; max_lines = 256 }

-- the most bytes that an area of the office needs
abbrev pub longest_area : ℕ
longest_area = 1048576

-- arguments of a symbol
abbrev pub max_arity : ℕ
max_arity = 8

-- the largest symbol
abbrev pub max_symbol : ℕ
max_symbol = 4095

-- the longest session, in bytes, and the capacity of its area
abbrev pub max_session : ℕ
max_session = 65536

abbrev pub session_capacity : ℕ
session_capacity = 1024
