mod CacheRows
pub mod Ends
pub mod Ways
pub mod Lines
pub mod Crowds
pub mod Shown
pub mod Changes
pub mod Follows
pub mod Victims
pub mod Slots
pub mod Flags
pub mod Counts
pub mod Made
pub mod Lowest
