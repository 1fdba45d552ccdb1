pub mod KeptInverses
