pub mod Tokens
pub mod Decimals
pub mod Passage
pub mod LineTexts
pub mod ShowEntries
pub mod SortedGroups
pub mod WholeText
pub mod LookLevels
pub mod FinerLists
pub mod FinerLines
pub mod FinerShow
mod ReadBack
mod Imports
