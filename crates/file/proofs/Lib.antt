mod WordLists
mod WaitLists
mod FittedRows
mod ColumnSums
mod Steps
mod RightWords
mod Kept
mod Deciding
mod SpelledWords
mod SpelledBack
pub mod Claims
pub mod Fitted
