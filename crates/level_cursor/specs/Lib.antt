pub mod InRows
pub mod RowLaws
pub mod RowLists
pub mod Rows
pub mod Searches
pub mod TornRows
