pub mod SameAsTest
