mod Commands
mod Each
mod Matching
mod Numerals
mod Stages
