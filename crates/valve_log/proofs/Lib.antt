mod Chunks
mod Steps
mod Parts
mod Verdicts
mod Written
mod Restored
