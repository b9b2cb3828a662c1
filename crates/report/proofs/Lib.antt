pub mod Multiples
pub mod Writes
pub mod RightPeriods
pub mod Declined
pub mod Ascii
