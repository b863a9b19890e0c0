mod Entries
mod LinkOrder
mod OneMore
