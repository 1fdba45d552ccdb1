pub mod Calls
pub mod SingleCalls
