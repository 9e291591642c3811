-- `Bytes`: big-endian numbers. `Words`: numbers one after the other. `Opening`: how a tag begins.
pub mod Bytes
pub mod Words
pub mod Opening
