-- Entries answered so far.
use Rattle.std.proofs.Common.{◌≡◌, ℕ, ◌+◌, ◌<◌, List, [], ◌∷◌, ◌++◌, length, get_or, take, drop, set, Option, sym, refl, ap, ◌∙◌, subst, ap₂, append_assoc, append-nil, add-zero, arith, length-set, length-take, get_or-drop}
use Rattle.std.proofs.lemmas.List.{take_more, take_more_set, drop-set-lt, drop-drop}
use Rattle.family.specs.Meaning.{Meaning}
use Rattle.account.specs.Calls as account
use Rattle.account.specs.Ends.{Ends}
use Rattle.account.specs.Runs.{Returned, Kept}
use Rattle.account.proofs.Sequences.{in_sequence}
use Rattle.runs.specs.declared.entries.Entry.{Entry}
use Rattle.runs.specs.Entries.{asked, all_asked, told, all_told, Becomes, AllBecome}

-- the entries before the next one are answered, a run so far; the others are as they were
pub record Answering {F G P : Type 0} (m : F → Meaning) (m' : G → Meaning) (w : P → ℕ → Option ℕ) (found : Ends) (xs ys : List (Entry F G P)) (i : ℕ) (here : Ends) : Type 0 where
  pub same : drop i ys ≡ drop i xs
  pub long : length ys ≡ length xs
  pub become : AllBecome (take i xs) (take i ys)
  pub kept : Kept found (all_asked m m' w (take i xs)) (all_told (take i xs) (take i ys)) here

module _ {F G P : Type 0} (m : F → Meaning) (m' : G → Meaning) (w : P → ℕ → Option ℕ) where
  asked-push : (xs : List (Entry F G P)) (x : Entry F G P) → all_asked m m' w (xs ++ x ∷ []) ≡ all_asked m m' w xs ++ asked m m' w x
  asked-push [] x = append-nil (asked m m' w x)
  asked-push (y ∷ xs) x =
      ap (λ (l : List account.Call). asked m m' w y ++ l) (asked-push xs x) ∙ sym (append_assoc (asked m m' w y) (all_asked m m' w xs) (asked m m' w x))

  told_push : (xs ys : List (Entry F G P)) (x y : Entry F G P) → length xs ≡ length ys
      → all_told (xs ++ x ∷ []) (ys ++ y ∷ []) ≡ all_told xs ys ++ told x y
  told_push [] [] x y e = append-nil (told x y)
  told_push [] (z ∷ ys) x y e = absurd (omega arith)
  told_push (z ∷ xs) [] x y e = absurd (omega arith)
  told_push (a ∷ xs) (b ∷ ys) x y e =
      ap (λ (l : List Returned). told a b ++ l) (told_push xs ys x y (omega arith)) ∙ sym (append_assoc (told a b) (all_told xs ys) (told x y))

  become_push : (xs ys : List (Entry F G P)) (x y : Entry F G P) → AllBecome xs ys → Becomes x y → AllBecome (xs ++ x ∷ []) (ys ++ y ∷ [])
  become_push [] [] x y all here = (here, tt)
  become_push [] (z ∷ ys) x y all here = absurd all
  become_push (z ∷ xs) [] x y all here = absurd all
  become_push (a ∷ xs) (b ∷ ys) x y all here = (all.0, become_push xs ys x y all.1 here)

  pub none_yet : (found : Ends) (xs : List (Entry F G P)) → Answering m m' w found xs xs 0 found
  none_yet found xs = record { same = refl; long = refl; become = tt; kept = in_sequence.none found }

  pub one_more : (found here there : Ends) (xs ys : List (Entry F G P)) (i : ℕ) (x y : Entry F G P) → i < length ys → x ≡ get_or ys i x
      → Becomes x y → Kept here (asked m m' w x) (told x y) there
      → Answering m m' w found xs ys i here → Answering m m' w found xs (set ys i y) (i + 1) there
  one_more found here there xs ys i x y below read became next was =
      let same_length = was.long in
      let within : i < length xs = omega arith in
      let at-xs : get_or xs i x ≡ x =
      ap (λ (n : ℕ). get_or xs n x) (sym (add-zero i)) ∙ sym (get_or-drop i xs 0 x) ∙ ap (λ (l : List (Entry F G P)). get_or l 0 x) (sym was.same)
      ∙ get_or-drop i ys 0 x ∙ ap (λ (n : ℕ). get_or ys n x) (add-zero i) ∙ sym read in
      let taken : take (i + 1) xs ≡ take i xs ++ (x ∷ []) = take_more xs i x within ∙ ap (λ (z : Entry F G P). take i xs ++ (z ∷ [])) at-xs in
      let taken' : take (i + 1) (set ys i y) ≡ take i ys ++ (y ∷ []) = take_more_set ys i y below in
      let lengths : length (take i xs) ≡ length (take i ys) = simp length-take (omega arith) in
      let calls : all_asked m m' w (take i xs) ++ asked m m' w x ≡ all_asked m m' w (take (i + 1) xs) =
      sym (ap (all_asked m m' w) taken ∙ asked-push (take i xs) x) in
      let replies : all_told (take i xs) (take i ys) ++ told x y ≡ all_told (take (i + 1) xs) (take (i + 1) (set ys i y)) =
      sym (ap₂ (λ (a b : List (Entry F G P)). all_told a b) taken taken' ∙ told_push (take i xs) (take i ys) x y lengths) in
      record {
        same = drop-set-lt (i + 1) ys i y (omega arith) ∙ sym (drop-drop 1 i ys) ∙ ap (drop 1) was.same ∙ drop-drop 1 i xs;
        long = length-set ys i y ∙ was.long;
        become =
            subst (λ (l : List (Entry F G P)). AllBecome l (take (i + 1) (set ys i y))) (sym taken)
            (subst (λ (l : List (Entry F G P)). AllBecome (take i xs ++ (x ∷ [])) l) (sym taken') (become_push (take i xs) (take i ys) x y was.become became));
        kept =
            subst (λ (l : List account.Call). Kept found l (all_told (take (i + 1) xs) (take (i + 1) (set ys i y))) there) calls
            (subst (λ (l : List Returned). Kept found (all_asked m m' w (take i xs) ++ asked m m' w x) l there) replies
            (in_sequence.and_then found here there (all_asked m m' w (take i xs)) (asked m m' w x) (all_told (take i xs) (take i ys)) (told x y) was.kept next));
      }
