-- Runs in parts: a call among others, and one run after another.
use Rattle.std.proofs.Common.{◌≡◌, ◌+◌, ◌*◌, ◌≤◌, List, [], ◌∷◌, ◌++◌, map, sym, refl, ap, ◌∙◌, subst, ap₂, append_assoc}
use Rattle.std.specs.List.{AllByRecursion}
use Rattle.std.proofs.ByRecursion.{All-append}
use Rattle.std.proofs.lemmas.List.{map-append}
use Rattle.family.specs.Meaning.{Meaning}
use Rattle.account.specs.Calls.{Call}
use Rattle.account.specs.Account.{Account, Step, outcome, outcomes, account_after, Creations, created}
use Rattle.account.specs.Ends.{Ends, Replied, Reaches, ends_of, reply}
use Rattle.account.specs.Promise.{Accepted, Proper, Promise}
use Rattle.account.specs.Runs.{Splits, Returned, worked_out, GoesOn, Kept, InSequence}
use Rattle.account.proofs.Following.{ends-follow}
use Rattle.account.proofs.Running.{account_append, run_sound, created-sound, every_run}
use Rattle.account.proofs.Steps.{Sound, good_governs}

outcomes-append : (a : Account) (xs ys : List Call) → outcomes a (xs ++ ys) ≡ outcomes a xs ++ outcomes (account_after a xs) ys
outcomes-append a [] ys = refl
outcomes-append a (x ∷ xs) ys = ap (λ (l : List Step). outcome a x ∷ l) (outcomes-append (outcome a x).after xs ys)

pub outcomes_split : Splits
outcomes_split a before c after = outcomes-append a before (c ∷ after)

-- the keys of ends that stand as an account of a run says reach every text
reaches : (a : Account) → Sound a → Reaches (ends_of a).reader × Reaches (ends_of a).door
reaches a v =
    (λ slot. (good_governs a.used a.reader slot v.reader_end).reaches, λ slot. (good_governs a.used a.door slot v.door_end).reaches)

-- what goes on after `before` has the promise, if answers and ends are as the account says
goes_on : (c : Creations) (before calls : List Call) (returned : List Returned) (left : Ends) → Accepted c → AllByRecursion Proper before → AllByRecursion Proper calls
    → returned ≡ map worked_out (outcomes (account_after (created c) before) calls)
    → left ≡ ends_of (account_after (account_after (created c) before) calls)
    → GoesOn c before calls returned left
goes_on c before calls returned left ad pr ps answers stands =
    let all : AllByRecursion Proper (before ++ calls) = All-append Proper before calls pr ps in
    record {
      answers = answers;
      stands = stands ∙ ap ends_of (sym (account_append (created c) before calls));
      proper = all;
      promises = λ d. every_run c (before ++ calls) d ad all;
    }

no_call : (e : Ends) → Kept e [] [] e
no_call e c before ad pr here = goes_on c before [] [] e ad pr tt refl here

one_call : (found left : Ends) (call : Call) (r : Returned) → Proper call
    → (Reaches found.reader → Reaches found.door → reply found call ≡ record { answer = r.answer; buffer = r.buffer; after = left })
    → Kept found (call ∷ []) (r ∷ []) left
one_call found left call r p replies c before ad pr here =
    let a = account_after (created c) before in
    let full = subst (λ (e : Ends). Reaches e.reader × Reaches e.door) (sym here) (reaches a (run_sound (created c) before (created-sound c ad) pr)) in
    let now : ◌≡◌ {A = Replied} (record { answer = r.answer; buffer = r.buffer; after = left })
    (record { answer = (outcome a call).answer; buffer = (outcome a call).buffer; after = ends_of (outcome a call).after }) =
    sym (replies full.0 full.1) ∙ ap (λ (e : Ends). reply e call) here ∙ ends-follow a call in
    goes_on c before (call ∷ []) (r ∷ []) left ad pr (p, tt)
    (ap (λ (z : Replied). record { answer = z.answer; buffer = z.buffer } ∷ []) now)
    (ap (λ (z : Replied). z.after) now)

one_after_another : (found between left : Ends) (first second : List Call) (r s : List Returned) → Kept found first r between
    → Kept between second s left → Kept found (first ++ second) (r ++ s) left
one_after_another found between left first second r s k l c before ad pr here =
    let g = k c before ad pr here in
    let h = l c (before ++ first) ad g.proper g.stands in
    let a = account_after (created c) before in
    let assoc : (before ++ first) ++ second ≡ before ++ (first ++ second) = append_assoc before first second in
    record {
      answers =
          ap₂ (λ (x y : List Returned). x ++ y) g.answers
          (h.answers ∙ ap (λ (b : Account). map worked_out (outcomes b second)) (account_append (created c) before first))
          ∙ sym (map-append worked_out (outcomes a first) (outcomes (account_after a first) second))
          ∙ ap (map worked_out) (sym (outcomes-append a first second));
      stands = h.stands ∙ ap (λ (x : List Call). ends_of (account_after (created c) x)) assoc;
      proper = subst (AllByRecursion Proper) assoc h.proper;
      promises = λ d.
          subst (λ (x : List Call). AllByRecursion (λ (q : Meaning). 2 * c.allowance + d + 1 ≤ q.distance) (account_after (created c) x).used → Promise c x d)
          assoc
          (h.promises d);
    }

pub in_sequence : InSequence
in_sequence = record { none = no_call; one = one_call; and_then = one_after_another }
