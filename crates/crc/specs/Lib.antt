-- Polynomials, the powers of x modulo a generator, and the keys that they make.
pub mod Polynomials
pub mod Powers
pub mod Horner
pub mod Crc
pub mod Admitted
-- Lemmas, of which nothing has to be believed: that every admitted key keeps the law, which its impl of `Family` names.
pub mod TimesX
pub mod PowersLemmas
pub mod CrcLaw
