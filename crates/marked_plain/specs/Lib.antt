pub mod PlainCases
