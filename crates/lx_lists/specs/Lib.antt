pub mod TwoListsMeaning
pub mod KeptLists
pub mod OtherList
pub mod SecondLines
pub mod Laws
pub mod Imports
