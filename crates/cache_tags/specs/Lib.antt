pub mod CacheRule
pub mod Sets
pub mod Lists
pub mod Tags
pub mod Following
pub mod Laws
