-- Lemmas on sealing and opening.
pub mod Numbers
pub mod Texts
pub mod PadAnswers
pub mod SealAnswers
pub mod ReadAnswers
pub mod OpenAnswers
