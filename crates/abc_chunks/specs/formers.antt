pub mod chunks
