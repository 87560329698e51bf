-- That the laws of pools follow from the rule of a pool.
mod Runs
mod RunsKept
mod Seats
mod States
mod Steps
mod Tables
mod Targets
