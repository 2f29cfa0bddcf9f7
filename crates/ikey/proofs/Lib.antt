pub mod Behind
pub mod FrontNumbers
pub mod Fronts
pub mod Words
pub mod SearchedSources
