mod Leaving
mod Grouped
mod Replaced
mod Judged
mod Roomy
mod Committed
mod Restanding
mod Readings
