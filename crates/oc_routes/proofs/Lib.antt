pub mod StepAnswers
pub mod Names
pub mod Spared
pub mod TokenLaws
pub mod Bodies
pub mod Brought
pub mod InputLines
pub mod BodyFits
pub mod ConditionLaws
pub mod Holdings
pub mod LineLaws
pub mod LocationLaws
pub mod MacLaws
pub mod Chunks
pub mod Cuts
pub mod PastEnds
pub mod PieceLaws
pub mod SelectionLaws
pub mod Settling
pub mod Sendings
pub mod SparedReplies
pub mod Unread
pub mod WaitLaws
mod Marks
mod PlainNames
mod Counting
mod Texts
mod Ids
mod Noted
