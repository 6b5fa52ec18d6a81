mod JobWords
mod DashedWords
mod ArgumentValues
mod NothingBegun
mod Imports
