pub mod Tests
pub mod Certificates
pub mod Verdicts
pub mod Replies
pub mod Samples
