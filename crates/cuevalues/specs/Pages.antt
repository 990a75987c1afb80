-- What is written on a page. Assumes nothing.
use Rattle.std.specs.Prelude.{◌≡◌, ℕ, ◌+◌, ◌<◌, List, ◌++◌, length, Ok, Err, vec_items, Result}
use Rattle.cuevalues.specs.declared.page.Full.{Full}
use Rattle.cuevalues.specs.declared.page.Page.{Page}

abbrev pub text_of : Page → List ℕ
text_of p = vec_items p.text

-- the bytes were added, or they do not fit, and only some bytes were added
abbrev pub Laid : List ℕ → List ℕ → Result Unit Full → List ℕ → Type 0
Laid old bytes (Ok _) new = new ≡ old ++ bytes
Laid old bytes (Err _) new = (262144 < length old + length bytes) × ((part : List ℕ) × (new ≡ old ++ part))
