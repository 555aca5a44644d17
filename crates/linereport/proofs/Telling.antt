-- Frames told one by one: what is written, with what the frames that are left will give, is the whole.
use Rattle.std.proofs.Common.{◌≡◌, ℕ, suc, ◌+◌, ◌*◌, ◌≤◌, List, [], ◌∷◌, ◌++◌, length, sum_by, sym, ap, ◌∙◌, ap₂, append_assoc, append-nil, arith, length-append}
use Rattle.std.proofs.lemmas.List.Sums.{sum_by-cons}
use Rattle.account.specs.Calls.{Pads, Answer}
use Rattle.account.specs.Ends.{EndState}
use Rattle.linefile.specs.File.{SentFrame, most_frames}
use Rattle.linewriter.specs.declared.totals.Totals.{Totals}
use Rattle.linewriter.specs.Lines.{frame_line}
use Rattle.linewriter.specs.Counting.{counts_opened, counts_mended, counts_refused, totals_of, counted}
use Rattle.linewriter.proofs.Counts.{at_most_one, raised_below}
use Rattle.linereport.specs.Frames.{frame_reply, answers}
use Rattle.linereport.specs.Report.{frame_lines, summed_up}

-- no line of a frame is longer
abbrev pub longest_line : ℕ
longest_line = 80

-- The door's end began as `first` with the frames `all`; it is now `here`, and `left` are to come.
pub record SoFar (pads : Pads) (first : EndState) (all : List SentFrame) (here : EndState) (left : List SentFrame) (text : List ℕ) (t : Totals) : Type 0 where
  pub lines : text ++ frame_lines left (answers pads here left) ≡ frame_lines all (answers pads first all)
  pub opened : t.opened + sum_by counts_opened (answers pads here left) ≡ sum_by counts_opened (answers pads first all)
  pub mended : t.mended + sum_by counts_mended (answers pads here left) ≡ sum_by counts_mended (answers pads first all)
  pub refused : t.refused + sum_by counts_refused (answers pads here left) ≡ sum_by counts_refused (answers pads first all)
  pub short : length text + longest_line * length left ≤ longest_line * most_frames
  pub few : t.opened + t.mended + t.refused + length left ≤ most_frames

-- ---- one more

-- a frame is told: its line is written, its answer counted
pub so_far_more : (pads : Pads) (first : EndState) (all : List SentFrame) (here : EndState) (f : SentFrame) (left left' : List SentFrame) (text : List ℕ) (t : Totals)
    (a : Answer) (here' : EndState) (text' : List ℕ) (t' : Totals)
    → SoFar pads first all here left text t → left ≡ f ∷ left'
    → a ≡ (frame_reply pads here f).answer → here' ≡ (frame_reply pads here f).after
    → text' ≡ text ++ frame_line f.slot a → length (frame_line f.slot a) ≤ longest_line → t' ≡ counted t a
    → SoFar pads first all here' left' text' t'
unfolding answers
so_far_more pads first all here f left left' text t a here' text' t' s e ea eh et el ec =
    let rest = answers pads here' left' in
    let told : answers pads here left ≡ a ∷ rest =
    ap (answers pads here) e ∙ ap₂ (λ (x : Answer) (h : EndState). x ∷ answers pads h left') (sym ea) (sym eh) in
    let n : length left ≡ suc (length left') = ap length e in
    let room = s.few in
    let one = at_most_one a in
    let o : t'.opened ≡ t.opened + counts_opened a = ap (λ (x : Totals). x.opened) ec ∙ raised_below t.opened (counts_opened a) (omega arith) in
    let m : t'.mended ≡ t.mended + counts_mended a = ap (λ (x : Totals). x.mended) ec ∙ raised_below t.mended (counts_mended a) (omega arith) in
    let k : t'.refused ≡ t.refused + counts_refused a = ap (λ (x : Totals). x.refused) ec ∙ raised_below t.refused (counts_refused a) (omega arith) in
    record {
      lines =
          ap (λ (x : List ℕ). x ++ frame_lines left' rest) et
          ∙ append_assoc text (frame_line f.slot a) (frame_lines left' rest)
          ∙ ap (λ (x : List ℕ). text ++ x) (sym (ap₂ frame_lines e told))
          ∙ s.lines;
      opened = count_more counts_opened t.opened t'.opened (answers pads here left) rest _ told o s.opened;
      mended = count_more counts_mended t.mended t'.mended (answers pads here left) rest _ told m s.mended;
      refused = count_more counts_refused t.refused t'.refused (answers pads here left) rest _ told k s.refused;
      short =
          let long : length text' ≡ length text + length (frame_line f.slot a) = ap length et ∙ length-append text (frame_line f.slot a) in
          let sh = s.short in omega arith;
      few = omega arith;
    }
  where
    count_more : (count : Answer → ℕ) (n n' : ℕ) (xs rest : List Answer) (whole : ℕ) → xs ≡ a ∷ rest → n' ≡ n + count a → n + sum_by count xs ≡ whole → n' + sum_by count rest ≡ whole
    count_more count n n' xs rest whole x y z =
        let w : sum_by count xs ≡ count a + sum_by count rest = ap (sum_by count) x ∙ sum_by-cons count a rest in
        omega arith

-- all is told
pub so_far_all : (pads : Pads) (first : EndState) (all : List SentFrame) (here : EndState) (left : List SentFrame) (text : List ℕ) (t : Totals)
    → SoFar pads first all here left text t → left ≡ []
    → (text ≡ frame_lines all (answers pads first all)) × (t ≡ totals_of (answers pads first all))
unfolding answers
so_far_all pads first all here left text t s e =
    let none : answers pads here left ≡ [] = ap (answers pads here) e in
    let o : t.opened ≡ sum_by counts_opened (answers pads first all) = (let z : sum_by counts_opened (answers pads here left) ≡ 0 = ap (sum_by counts_opened) none in omega arith) ∙ s.opened in
    let m : t.mended ≡ sum_by counts_mended (answers pads first all) = (let z : sum_by counts_mended (answers pads here left) ≡ 0 = ap (sum_by counts_mended) none in omega arith) ∙ s.mended in
    let k : t.refused ≡ sum_by counts_refused (answers pads first all) = (let z : sum_by counts_refused (answers pads here left) ≡ 0 = ap (sum_by counts_refused) none in omega arith) ∙ s.refused in
    let whole : text ≡ frame_lines all (answers pads first all) = sym (append-nil text) ∙ ap (λ (x : List ℕ). text ++ x) (sym (ap (λ (fs : List SentFrame). frame_lines fs (answers pads here left)) e)) ∙ s.lines in
    (whole, same_totals t (totals_of (answers pads first all)) o m k)
  where
    same_totals : (x y : Totals) → x.opened ≡ y.opened → x.mended ≡ y.mended → x.refused ≡ y.refused → x ≡ y
    same_totals x y a b c =
        ap (λ (n : ℕ). record { opened = n; mended = x.mended; refused = x.refused }) a
        ∙ ap₂ (λ (n m : ℕ). record { opened = y.opened; mended = n; refused = m }) b c

-- and the last line is written behind it
pub told-whole : (pads : Pads) (first : EndState) (all : List SentFrame) (here : EndState) (left : List SentFrame) (text : List ℕ) (t : Totals) (whole : List ℕ)
    → SoFar pads first all here left text t → left ≡ [] → whole ≡ text ++ summed_up t
    → whole ≡ frame_lines all (answers pads first all) ++ summed_up (totals_of (answers pads first all))
told-whole pads first all here left text t whole s e w =
    let both = so_far_all pads first all here left text t s e in
    w ∙ ap₂ (λ (x : List ℕ) (y : Totals). x ++ summed_up y) both.0 both.1
