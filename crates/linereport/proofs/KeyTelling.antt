-- A file under its key: which exit answers which questions.
use Rattle.std.proofs.Common.{◌≡◌, ℕ, List, ◌++◌, Ok, Err, Result, sym, ◌∙◌, subst, ap₂}
use Rattle.family.specs.declared.raw.RawKey.{RawKey}
use Rattle.family.specs.Meaning.{Meaning}
use Rattle.family.specs.Questions.{AllYes, FirstNo, Asked}
use Rattle.family.proofs.Asking.{yes_append, no_early, no_late}
use Rattle.pads.specs.Sources.{book_words}
use Rattle.account.specs.Ends.{EndState, new_end}
use Rattle.linefile.specs.declared.key.KeyFamily.{KeyFamily}
use Rattle.linefile.specs.declared.key.KeyRecord.{KeyRecord}
use Rattle.linefile.specs.File.{Contents}
use Rattle.linewriter.specs.declared.page.Page.{Page}
use Rattle.linewriter.specs.Counting.{totals_of}
use Rattle.linewriter.specs.Pages.{written}
use Rattle.linereport.specs.declared.keys.RefusedKey.{RefusedKey}
use Rattle.linereport.specs.Keys.{raw_of, family_meaning, family_questions, laid, admitted_questions, record_meaning, record_questions}
use Rattle.linereport.specs.Refusals.{key_number}
use Rattle.linereport.specs.Frames.{answers}
use Rattle.linereport.specs.Report.{frame_lines, summed_up, page_under}

-- ---- at the door's end

-- what an end that was created with a key tells of a file's frames is the page under that key
pub tells_page : (key : Meaning) (c : Contents) (words : List ℕ) (h : EndState) (text : List ℕ) → words ≡ c.words → h ≡ new_end key c.key.door c.key.allowance
    → text ≡ frame_lines c.frames (answers (book_words words) h c.frames) ++ summed_up (totals_of (answers (book_words words) h c.frames))
    → text ≡ page_under key c
unfolding page_under
tells_page key c words h text w s e =
    e ∙ ap₂ (λ (ws : List ℕ) (door : EndState). frame_lines c.frames (answers (book_words ws) door c.frames) ++ summed_up (totals_of (answers (book_words ws) door c.frames))) w s

-- ---- at admission

-- a key that is not admitted
pub not_admitted : (k : KeyRecord) (f : KeyFamily) (raw : RawKey) (n : ℕ) → k.kind.family ≡ f → raw ≡ raw_of k
    → FirstNo (family_questions f raw) n → FirstNo (record_questions k) n
not_admitted k f raw n e r h =
    no_early (family_questions k.kind.family (raw_of k)) _ n
    (subst (λ (x : KeyFamily). FirstNo (family_questions x (raw_of k)) n) (sym e) (subst (λ (x : RawKey). FirstNo (family_questions f x) n) r h))

told : (k : KeyRecord) (c : Contents) (r : Result Page RefusedKey) → AllYes (family_questions k.kind.family (raw_of k))
    → Asked (admitted_questions k.kind.parity (family_meaning k.kind.family (raw_of k)) k.allowance) key_number (λ page. written page ≡ page_under (record_meaning k) c) r
    → Asked (record_questions k) key_number (λ page. written page ≡ page_under (record_meaning k) c) r
told k c (Ok page) y a = (yes_append (family_questions k.kind.family (raw_of k)) _ y a.0, a.1)
told k c (Err e) y a = no_late (family_questions k.kind.family (raw_of k)) _ (key_number e) y a

-- a key that is admitted
pub admitted : (k : KeyRecord) (c : Contents) (f : KeyFamily) (raw : RawKey) (m : Meaning) (r : Result Page RefusedKey) → k.kind.family ≡ f → raw ≡ raw_of k
    → AllYes (family_questions f raw) → m ≡ family_meaning f raw
    → Asked (admitted_questions k.kind.parity m k.allowance) key_number (λ page. written page ≡ page_under (laid k.kind.parity m) c) r
    → Asked (record_questions k) key_number (λ page. written page ≡ page_under (record_meaning k) c) r
admitted k c f raw m r e q y s a =
    let same : m ≡ family_meaning k.kind.family (raw_of k) = s ∙ ap₂ family_meaning (sym e) q in
    told k c r
    (subst (λ (x : KeyFamily). AllYes (family_questions x (raw_of k))) (sym e) (subst (λ (x : RawKey). AllYes (family_questions f x)) q y))
    (subst (λ (x : Meaning). Asked (admitted_questions k.kind.parity x k.allowance) key_number (λ page. written page ≡ page_under (laid k.kind.parity x) c) r) same a)
