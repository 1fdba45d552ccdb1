pub mod Answers
pub mod Starts
pub mod OneGroup
pub mod FollowingOps
pub mod Sums
pub mod RoundUp
pub mod Contexts
pub mod FamilyLaws
