-- Lemmas on one multiplication by x, on the powers of x, on their remainders, and on the digest.
mod Remainders
mod Locating
mod Digests
