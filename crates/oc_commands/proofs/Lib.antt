mod Parts
pub mod Told
mod SettleAndHealEvents
pub mod Statuses
mod Replayed
pub mod Completes
pub mod Configured
mod LinesTold
mod Gotten
mod Posted
pub mod Tokens
mod AnyLine
pub mod Works
pub mod Serves
mod Headers
mod Shown
mod RecordsRead
