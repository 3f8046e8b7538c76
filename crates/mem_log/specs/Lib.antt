pub mod LogState
