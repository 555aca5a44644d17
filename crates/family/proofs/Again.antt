-- Columns made one from another are separate unless the first comes again.
use Rattle.std.proofs.Common.{◌≡◌, ℕ, zero, suc, ◌^◌, ◌<◌, Bool, true, false, not, ◌≢◌, List, Decides, sym, refl, ◌∙◌, subst, arith}
use Rattle.std.proofs.lemmas.Bool.{false≢true}
use Rattle.family.specs.Meaning.{Separate}
use Rattle.family.specs.Orbits.{iterate, orbit}
use Rattle.family.specs.Stepped.{FirstAgain}
use Rattle.family.proofs.OrbitColumns.{length_orbit, get_or-orbit, separate_orbit, again_separate}

module _ (f : ℕ → ℕ) where
  from_again : (m a : ℕ) → FirstAgain (orbit f m a) → (j : ℕ) × (0 < j) × (j < m) × (iterate f j a ≡ a)
  from_again zero a w = absurd w
  from_again (suc k) a w =
      let within : w.0 < k = omega (arith, w.1, length_orbit f k (f a)) in
      (suc w.0, omega arith, omega arith, sym (get_or-orbit f k (f a) w.0 within) ∙ w.2)

  to_again : (m a j : ℕ) → 0 < j → j < m → iterate f j a ≡ a → FirstAgain (orbit f m a)
  to_again zero a j p h e = absurd (omega arith)
  to_again (suc k) a zero p h e = absurd (omega arith)
  to_again (suc k) a (suc i) p h e =
      let within : i < k = omega arith in
      (i, omega (arith, length_orbit f k (f a)), get_or-orbit f k (f a) i within ∙ e)

  -- what holds unless the first comes again
  pub unless_again : {P : Type 0} (m a : ℕ) → (((j : ℕ) → 0 < j → j < m → iterate f j a ≢ a) → P) → ((j : ℕ) → 0 < j → j < m → iterate f j a ≡ a → P → ⊥)
      → {all : List ℕ} → all ≡ orbit f m a → {again : Bool} → Decides again (FirstAgain all) → Decides (not again) P
  unless_again {P} m a new old {all} is {again} told = go again (subst (λ xs. Decides again (FirstAgain xs)) is told)
    where
      go : (b : Bool) → Decides b (FirstAgain (orbit f m a)) → Decides (not b) P
      go true d = let w = from_again m a (d.0 refl) in ((λ e. absurd (false≢true e)), (λ p. absurd (old w.0 w.1 w.2 w.3 p)))
      go false d = ((λ _. new (λ j p h e. false≢true (d.1 (to_again m a j p h e)))), (λ _. refl))

-- separate numbers, where the function stays within n bits, keeps numbers apart and leaves zero where it is
pub separate_unless_again : (f : ℕ → ℕ) (n : ℕ) → ((a : ℕ) → a < 2 ^ n → f a < 2 ^ n) → ((a b : ℕ) → a < 2 ^ n → b < 2 ^ n → f a ≡ f b → a ≡ b) → f 0 ≡ 0
    → (m a : ℕ) → a < 2 ^ n → a ≢ 0 → {all : List ℕ} → all ≡ orbit f m a → {again : Bool} → Decides again (FirstAgain all) → Decides (not again) (Separate (orbit f m a))
separate_unless_again f n stays apart fixes m a small some =
    unless_again f m a (separate_orbit f n stays apart fixes m a small some) (again_separate f m a)
