-- Lemmas on the keys of the figures.
mod Forms
