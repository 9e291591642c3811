-- `Numbers`: a number's bytes make the number, and a number made of bytes has those bytes. `Opening`: a tag's first
-- eight bytes. `Stores`: bytes stored one after the other. `Words`: numbers one after the other, however wide.
-- `Widths`: which bytes are eight bits wide.
pub mod Numbers
pub mod Opening
pub mod Stores
pub mod Words
pub mod Widths
