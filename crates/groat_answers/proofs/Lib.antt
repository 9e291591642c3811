-- Lemmas on what is kept.
mod Held
