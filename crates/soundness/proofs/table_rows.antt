pub mod EntryRow
