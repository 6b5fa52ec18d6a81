mod AsBox
mod Told
mod Imports
