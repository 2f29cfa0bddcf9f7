pub mod ShorterFirst
