mod Added
mod Carried
mod ChunkSteps
mod Completing
mod Dialled
mod Dialling
pub mod Exchanged
mod Fetched
mod Filled
mod Heard
mod Led
mod Lines
mod Made
mod Making
mod Moving
mod OneHead
mod Parts
mod Pieces
mod Published
mod PutHeard
mod Redirected
mod Sent
pub mod Spoken
mod Talked
mod Telling
mod Texts
