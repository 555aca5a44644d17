-- What a page holds, and what it is to add a text to a page.
use Rattle.std.specs.Prelude.{◌≡◌, ℕ, ◌+◌, ◌<◌, List, ◌++◌, length, Result, MatchResult}
use Rattle.linewriter.specs.declared.page.Page.{Page}

-- how many bytes a page holds
abbrev pub page_size : ℕ
page_size = 16384

-- what is written in a page
abbrev pub written : Page → List ℕ
written page = page.bytes.items

-- A text is written behind what is written already. Where the page has no room for all of it, the page stays as it was.
abbrev pub Adds : {X E : Type 0} → Result X E → (text : List ℕ) (before after : Page) → Type 0
Adds r text before after =
    MatchResult r (λ _. written after ≡ written before ++ text)
    (λ _. (after ≡ before) × (page_size < length (written before) + length text))
