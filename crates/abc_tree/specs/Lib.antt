-- What the tree of an item is.
pub mod inner
pub mod Templates
pub mod Ordered
pub mod Units
pub mod Lists
pub mod Height
pub mod Lined
pub mod Calls
pub mod Roles
pub mod Regular
pub mod RegularItems
