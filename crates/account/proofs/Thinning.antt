-- Lists in rising order of slots: one whose entries all stand in another is the other with some left out.
use Rattle.std.proofs.Common.{◌≡◌, ℕ, zero, suc, ◌<◌, ◌⊎◌, List, [], ◌∷◌, map, length, get_or, sym, ap, ◌∙◌, subst, inl, inr, arith}
use lib.ListN.{length-map}
use Rattle.std.specs.List.{ContainsAt as Has, AllByRecursion}
use Rattle.std.proofs.lemmas.List.{get_or-map}
use Rattle.std.proofs.ByRecursion.{all-has, All-weaker}
use Rattle.account.specs.Account.{HandedOver}
use Rattle.account.specs.Promise.{SomeLeftOut, none, kept, left, StrictlyRising}

has_cons : {X : Type 0} (y : X) (ys : List X) (x : X) → Has (y ∷ ys) x → (y ≡ x) ⊎ Has ys x
has_cons {X} y ys x h = go h.0 h.1 h.2
  where
    go : (k : ℕ) → k < length (y ∷ ys) → ((d : X) → get_or (y ∷ ys) k d ≡ x) → (y ≡ x) ⊎ Has ys x
    go zero l at = inl (at x)
    go (suc k) l at = inr (k, omega arith, at)

pub has_map : {X Y : Type 0} (f : X → Y) (xs : List X) (x : X) → Has xs x → Has (map f xs) (f x)
has_map f xs x h =
    (h.0, subst (λ (n : ℕ). h.0 < n) (sym (length-map xs f)) h.1, λ d. get_or-map f xs h.0 x d h.1 ∙ ap f (h.2 x))

abbrev pub slots : List HandedOver → List ℕ
slots xs = map (λ (e : HandedOver). e.slot) xs

above : (s : ℕ) (xs : List HandedOver) → StrictlyRising s (slots xs) → AllByRecursion (λ (h : HandedOver). s < h.slot) xs
above s [] r = tt
above s (x ∷ xs) r = (
  r.0,
  All-weaker (λ (h : HandedOver). x.slot < h.slot) (λ (h : HandedOver). s < h.slot) (λ h l. omega (arith, r.0)) xs
      (above x.slot xs r.1),
)

-- what stands after y's slot is not y
past : (y : HandedOver) (ys xs : List HandedOver) → AllByRecursion (Has (y ∷ ys)) xs → AllByRecursion (λ (h : HandedOver). y.slot < h.slot) xs → AllByRecursion (Has ys) xs
past y ys [] h l = tt
past y ys (x ∷ xs) h l = (
  elim (has_cons y ys x h.0) [ inl e ↦ absurd (omega (arith, ap (λ (z : HandedOver). z.slot) e, l.0)) | inr k ↦ k ],
  past y ys xs h.1 l.1,
)

pub thinned : (ys xs : List HandedOver) (s t : ℕ) → StrictlyRising s (slots xs) → StrictlyRising t (slots ys) → AllByRecursion (Has ys) xs → SomeLeftOut xs ys
thinned [] [] s t rx ry h = none
thinned [] (x ∷ xs) s t rx ry h = absurd (omega (arith, h.0.1))
thinned (y ∷ ys) [] s t rx ry h = left (thinned ys [] s y.slot rx ry.1 tt)
thinned (y ∷ ys) (x ∷ xs) s t rx ry h =
    elim (has_cons y ys x h.0) [
      | inl e ↦
          let l : AllByRecursion (λ (z : HandedOver). y.slot < z.slot) xs =
          subst (λ (w : HandedOver). AllByRecursion (λ (z : HandedOver). w.slot < z.slot) xs) (sym e) (above x.slot xs rx.1) in
          subst (λ (w : HandedOver). SomeLeftOut (x ∷ xs) (w ∷ ys)) (sym e)
          (kept (thinned ys xs x.slot y.slot rx.1 ry.1 (past y ys xs h.1 l)))
      | inr k ↦
          let first : y.slot < x.slot = all-has (λ (z : HandedOver). y.slot < z.slot) ys x (above y.slot ys ry.1) k in
          let l : AllByRecursion (λ (z : HandedOver). y.slot < z.slot) xs =
          All-weaker (λ (z : HandedOver). x.slot < z.slot) (λ (z : HandedOver). y.slot < z.slot) (λ z m. omega (arith, first)) xs
          (above x.slot xs rx.1) in
          left (thinned ys (x ∷ xs) s y.slot rx ry.1 (k, past y ys xs h.1 l))
    ]
