-- Each sealed frame of a run came from an accepted seal.
use Rattle.std.proofs.Common.{◌≡◌, ℕ, true, ◌⊎◌, List, [], ◌∷◌, ◌++◌, length, is_some, Some, None, Option, sym, refl, ap, ◌∙◌, inl, inr, arith}
use Rattle.std.specs.List.{ContainsAt as Has}
use Rattle.std.proofs.lemmas.Bool.{true≢false}
use Rattle.std.proofs.ByRecursion.{has_push_cases}
use Rattle.family.specs.Meaning.{Meaning}
use Rattle.account.specs.Questions.{Refusal, first_refusal}
use Rattle.account.specs.Calls.{Pads, word, Side, AtReader, AtDoor, Call, Seal, Wrote}
use Rattle.account.specs.Account.{EndKeys, SealedFrame, Account, sealed_entry, seals, add_sealed, with_end, outcome, account_after, created}
use Rattle.account.specs.Runs.{Origin, Origins}
use Rattle.account.proofs.Asking.{passed}
use Rattle.account.proofs.Steps.{seal_asked, step_by}

its_word : (o : Option ℕ) → is_some o ≡ true → o ≡ Some (word o)
its_word (Some w) h = refl
its_word None h = absurd (true≢false (sym h))

module _ (e : SealedFrame) where
  with_has : (a : Account) (side : Side) (x : EndKeys) (used : List Meaning) → Has (with_end a side x used).sealed e → Has a.sealed e
  with_has a AtReader x used h = h
  with_has a AtDoor x used h = h

  seal_origin : (a : Account) (slot : ℕ) (payload buffer : List ℕ) (pads : Pads) (c : Call) (rest : List Call) → c ≡ Seal slot payload buffer pads
      → first_refusal (seal_asked a slot payload buffer pads) ≡ None → Has (add_sealed a (sealed_entry a slot payload (word (pads slot)))).sealed e
      → Has a.sealed e ⊎ Origin a (c ∷ rest) e
  seal_origin a slot payload buffer pads c rest is accepted h =
      let new = sealed_entry a slot payload (word (pads slot)) in
      elim (has_push_cases a.sealed new e h) [
        | inl k ↦ inl k
        | inr k ↦
            inr
            (record {
              before = [];
              after = rest;
              slot = slot;
              payload = payload;
              buffer = buffer;
              pads = pads;
              word = word (pads slot);
              split = ap (λ (x : Call). x ∷ rest) is;
              covered = its_word (pads slot) (passed (seal_asked a slot payload buffer pads) accepted).1.1.1.0;
              accepted =
                  ap (λ (o : Option Refusal). (seals o a new buffer).answer) accepted ∙ ap (λ (x : SealedFrame). Wrote (length x.frame)) k;
              entry = sym k;
            })
      ]

  step-origin : (a : Account) (c : Call) (rest : List Call) → Has (outcome a c).after.sealed e → Has a.sealed e ⊎ Origin a (c ∷ rest) e
  step-origin a c rest =
      step_by (λ (b : Account). Has b.sealed e → Has a.sealed e ⊎ Origin a (c ∷ rest) e) a c
      (λ h. inl h)
      (λ slot payload buffer pads is accepted. seal_origin a slot payload buffer pads c rest is accepted)
      (λ slot frame buffer pads is accepted h. inl h)
      (λ side x more h. inl (with_has a side x (a.used ++ more) h))

  later : (a : Account) (c : Call) (cs : List Call) → Origin (outcome a c).after cs e → Origin a (c ∷ cs) e
  later a c cs o =
      record {
        before = c ∷ o.before;
        after = o.after;
        slot = o.slot;
        payload = o.payload;
        buffer = o.buffer;
        pads = o.pads;
        word = o.word;
        split = ap (λ (r : List Call). c ∷ r) o.split;
        covered = o.covered;
        accepted = o.accepted;
        entry = o.entry;
      }

  run_origin : (a : Account) (cs : List Call) → Has (account_after a cs).sealed e → Has a.sealed e ⊎ Origin a cs e
  run_origin a [] h = inl h
  run_origin a (c ∷ cs) h = elim (run_origin (outcome a c).after cs h) [ inl k ↦ step-origin a c cs k | inr o ↦ inr (later a c cs o) ]

pub origins : Origins
origins c calls e h = elim (run_origin e (created c) calls h) [ inl k ↦ absurd (omega (arith, k.1)) | inr o ↦ o ]
