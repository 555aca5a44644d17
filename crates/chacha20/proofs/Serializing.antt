-- The bytes of a list of words, written into an array four at a time.
use Rattle.std.proofs.Common.{◌≡◌, ℕ, zero, suc, ◌+◌, ◌*◌, ◌/◌, ◌%◌, ◌<◌, ◌≤◌, List, [], ◌∷◌, ◌++◌, length, get_or, take, drop, refl, ap, append_assoc, append-nil, le_of_suc-le-suc, not-suc-le-zero, add-one, arith, length-append, length-drop, length-take, take_all, drop-drop, take_at, drop_at}
use borrow.Rule.Slice.PartMut.{put_mid}
use Rattle.std.proofs.lemmas.List.{drop_all}
use Rattle.chacha20.specs.Block.{serialized}

-- The four bytes of one word.
abbrev pub le_bytes : ℕ → List ℕ
le_bytes w = w % 256 ∷ w / 256 % 256 ∷ w / 65536 % 256 ∷ w / 16777216 % 256 ∷ []

length-serialized : (ws : List ℕ) → length (serialized ws) ≡ 4 * length ws
unfolding serialized
length-serialized [] = refl
length-serialized (w ∷ ws) = let h = length-serialized ws in omega arith

serialized-more : (i : ℕ) (ws : List ℕ) → i < length ws
    → serialized (take (suc i) ws) ≡ serialized (take i ws) ++ le_bytes (get_or ws i 0)
unfolding serialized
serialized-more i [] h = absurd (not-suc-le-zero h)
serialized-more zero (w ∷ ws) h = refl
serialized-more (suc i) (w ∷ ws) h =
    ap (λ bs. w % 256 ∷ w / 256 % 256 ∷ w / 65536 % 256 ∷ w / 16777216 % 256 ∷ bs) (serialized-more i ws (le_of_suc-le-suc h))

-- What the array holds once the first i words are written over old.
pub written : ℕ → List ℕ → List ℕ → List ℕ
written i ws old = serialized (take i ws) ++ drop (4 * i) old

pub written_none : (ws old : List ℕ) → old ≡ written 0 ws old
unfolding written serialized
written_none ws old = refl

length_front : (i : ℕ) (ws : List ℕ) → i ≤ length ws → length (serialized (take i ws)) ≡ 4 * i
length_front i ws h = let e = length-serialized (take i ws) in let k = length-take i ws in omega arith

pub length-written : (i : ℕ) (ws old : List ℕ) → i ≤ length ws → length old ≡ 4 * length ws
    → length (written i ws old) ≡ length old
unfolding written
length-written i ws old h k =
    let e = length_front i ws h in simp (length-append, length-drop) (omega arith)

pub written-more : (i n : ℕ) (ws old : List ℕ) → i < length ws → n ≡ 4
    → put_mid (4 * i) n (written i ws old) (le_bytes (get_or ws i 0)) ≡ written (i + 1) ws old
unfolding written
written-more i n ws old h e =
    let f = length_front i ws (omega arith) in
    let t = take_at (serialized (take i ws)) (drop (4 * i) old) (4 * i) f in
    let d = drop_at (serialized (take i ws)) (drop (4 * i) old) (4 * i) f in
    let r = drop-drop n (4 * i) old in
    let m : 4 * i + n ≡ 4 * (i + 1) = omega arith in
    let b = serialized-more i ws h in
    let s = add-one i in
    let a = append_assoc (serialized (take i ws)) (le_bytes (get_or ws i 0)) (drop (4 * (i + 1)) old) in
    cc

pub written_all : (i : ℕ) (ws old : List ℕ) → length ws ≡ i → length old ≡ 4 * i → written i ws old ≡ serialized ws
unfolding written
written_all i ws old h k =
    let t = take_all i ws (omega arith) in
    let d = drop_all (4 * i) old (omega arith) in
    let n = append-nil (serialized ws) in
    cc
