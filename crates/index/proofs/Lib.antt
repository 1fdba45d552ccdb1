pub mod ChangeLaws
pub mod LookupLaws
pub mod StepLaws
pub mod BuildLaws
pub mod IndexExact
