mod TakenLists
mod ReadTexts
mod Lines
mod TicksMore
mod Imports
mod LineEndRuns
