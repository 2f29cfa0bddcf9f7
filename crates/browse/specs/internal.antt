-- Walks and their text: what is below here need not be believed, since no caller builds on it but
-- by its name.
pub mod Lists
pub mod Walking
pub mod Printing
pub mod Opened
