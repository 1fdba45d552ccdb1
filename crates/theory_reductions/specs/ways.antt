pub mod ReadSteps
