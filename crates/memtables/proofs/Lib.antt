mod Batches
mod Generations
mod Sealing
mod Searching
