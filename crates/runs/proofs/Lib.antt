-- Lemmas on entries answered so far, and on single calls.
mod Answering
mod SingleCalls
