pub mod BeforeN2
