-- The parity layer: what it means, and what is asked before it is laid.
pub mod Layered
pub mod Refusals
-- Lemmas, of which nothing has to be believed: that the layer over a lawful key keeps the law, which its impl of `Family` names.
pub mod OddedColumns
pub mod Layers
