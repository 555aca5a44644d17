-- Lemmas on the two loops of the block: the sums, and the bytes of the words.
mod Sums
mod Serializing
