mod Passed
mod InMemory
mod Named
mod Statuses
mod Read
