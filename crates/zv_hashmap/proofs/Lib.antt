mod Built
mod Common
mod Lookups
mod Refused
mod Repeated
mod Slots
mod Written
