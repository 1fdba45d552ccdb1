pub mod NumeralLaws
pub mod NumeralLengths
pub mod PlainDigits
pub mod LineLengths
pub mod ReadBack
