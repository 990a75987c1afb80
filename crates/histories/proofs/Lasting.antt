-- Each byte is what an accepted set last laid there, else as it was at first. Assumes nothing.
use Rattle.std.proofs.Common.{◌≡◌, ℕ, ◌+◌, ◌-◌, ◌<◌, ◌≤◌, ◌⊎◌, List, [], ◌∷◌, length, get_or, Some, Ok, Err, Option, Result, sym, refl, ap, ◌∙◌, subst, inl, inr, arith}
use Rattle.std.proofs.lemmas.Bool.{cases_lt}
use Rattle.refusals.specs.declared.Why.{Why}
use Rattle.words.specs.Words.{bytes_of, lay}
use Rattle.words.proofs.Laying.{length_bytes, lay_inside, lay_outside}
use Rattle.kinds.specs.Kinds.{size_of}
use Rattle.settable.specs.declared.value.Value.{Value}
use Rattle.settable.specs.Values.{value_kind, value_word}
use Rattle.format.specs.Places.{row_at}
use Rattle.laying.specs.Elements.{element_place}
use Rattle.histories.specs.Cues.{rows_of, word_of}
use Rattle.histories.specs.Plain.{Call, looks, sets, rereads, tours_bytes, tours_rows, Answer, answer, after, Exchange, if_accepted, set_by, word_laid, value_laid}
use Rattle.histories.specs.Held.{IsValue}
use Rattle.histories.specs.Histories.{LaysAt, Lays, Untouched, LastLaid}
use Rattle.histories.proofs.Forms.{unworded}
use Rattle.histories.proofs.Framing.{set_laid}
use Rattle.histories.proofs.Alike.{framed_len, framed_form}
use Rattle.histories.proofs.Erasing.{Good}
use Rattle.histories.proofs.Stepping.{Valued}

-- the rows of two strings differ in their words at most
pub record SameForm (s t : List ℕ) : Type 0 where
  pub len : length (rows_of s) ≡ length (rows_of t)
  pub form : (i : ℕ) → unworded (row_at (rows_of s) i) ≡ unworded (row_at (rows_of t) i)
  pub long : length s ≡ length t

-- what is left at place k where these words were laid over s
abbrev LaidAt : Option ℕ → (size at k : ℕ) → (s new : List ℕ) → Type 0
LaidAt o size at k s new = LaysAt o size at k (get_or new k 0) ⊎ (((b : ℕ) → LaysAt o size at k b → ⊥) × (get_or new k 0 ≡ get_or s k 0))

lays_at : (at size w k : ℕ) (s : List ℕ) → at + size ≤ length s → LaidAt (Some w) size at k s (lay at (bytes_of size w) s)
lays_at at size w k s fits = by (cases_lt k at) (cases_lt k (at + size))
  where
    long : length (bytes_of size w) ≡ size
    long = length_bytes size w

    outside : (at ≤ k → k < at + size → ⊥) → LaidAt (Some w) size at k s (lay at (bytes_of size w) s)
    outside h =
        inr ((λ b l. h (omega (arith, l.2)) (omega (arith, l.1, l.2))), lay_outside at (bytes_of size w) s (omega (arith, long)) k (λ a b. h a (omega (arith, long))))

    by : (k < at) ⊎ (at ≤ k) → (k < at + size) ⊎ (at + size ≤ k) → LaidAt (Some w) size at k s (lay at (bytes_of size w) s)
    by (inl less) q = outside (λ a b. omega arith)
    by (inr from) (inr past) = outside (λ a b. omega arith)
    by (inr from) (inl to) =
        let same : k ≡ at + (k - at) = omega arith in
        inl (
          k - at,
          omega arith,
          same,
          ap (λ n. get_or (lay at (bytes_of size w) s) n 0) same ∙ lay_inside at (bytes_of size w) s (omega (arith, long)) (k - at) (omega (arith, long)),
        )

lays_by : (o : Option ℕ) (w size at at' k : ℕ) (s new : List ℕ) → o ≡ Some w → at ≡ at' → new ≡ lay at' (bytes_of size w) s → at' + size ≤ length s → LaidAt o size at k s new
lays_by o w size at at' k s new e f g fits =
    subst (λ x. LaidAt x size at k s new) (sym e)
    (subst (λ x. LaidAt (Some w) size x k s new) (sym f)
    (subst (λ x. LaidAt (Some w) size at' k s x) (sym g) (lays_at at' size w k s fits)))

-- what a set lays at place k
module _ (first : List ℕ) where
  abbrev SetLaid : (k : ℕ) → (s : List ℕ) → (i e : ℕ) → Value → Result (Unit {0}) Why → List ℕ → Type 0
  SetLaid k s i e v a s' =
      ((a ≡ Ok tt) × LaysAt (value_word v) (size_of (value_kind v)) (element_place (row_at (rows_of first) i) e) k (get_or s' k 0))
      ⊎ (((b : ℕ) → (a ≡ Ok tt) × LaysAt (value_word v) (size_of (value_kind v)) (element_place (row_at (rows_of first) i) e) k b → ⊥) × (get_or s' k 0 ≡ get_or s k 0))

  accepted_lays : (k : ℕ) (s new : List ℕ) (i e : ℕ) (v : Value) → LaidAt (value_word v) (size_of (value_kind v)) (element_place (row_at (rows_of first) i) e) k s new
      → SetLaid k s i e v (Ok tt) new
  accepted_lays k s new i e v (inl l) = inl (refl, l)
  accepted_lays k s new i e v (inr n) = inr ((λ b l. n.0 b l.1), n.1)

  set_lays : (k : ℕ) (s : List ℕ) (p i e : ℕ) (v : Value) (a : Result (Unit {0}) Why) → Good s → IsValue v → SameForm first s → a ≡ set_by (rows_of s) (word_of s) p i e v
      → SetLaid k s i e v a (if_accepted a (value_laid (row_at (rows_of s) i) e v s) s)
  set_lays k s p i e v (Ok u) g is f h =
      let l = set_laid s p i e v u g.accepted is (sym h) in
      accepted_lays k s (value_laid (row_at (rows_of s) i) e v s) i e v
      (lays_by (value_word v) l.was.word (size_of (value_kind v)) (element_place (row_at (rows_of first) i) e) (element_place (row_at (rows_of s) i) e) k s (value_laid (row_at (rows_of s) i) e v s)
      l.was.word_is (ap (λ r. element_place r e) (f.form i)) (ap (λ o. word_laid o (value_kind v) (row_at (rows_of s) i) e s) l.was.word_is) l.within)
  set_lays k s p i e v (Err x) g is f h =
      inr ((λ b l. (let no' = l.0 in let z : ◌≡◌ {A = ℕ} 0 1 = cc in omega arith)), refl)

  -- a set keeps the form
  set_form : (s : List ℕ) (p i e : ℕ) (v : Value) (q : Result (Unit {0}) Why) → Good s → IsValue v → SameForm first s → set_by (rows_of s) (word_of s) p i e v ≡ q
      → SameForm first (if_accepted q (value_laid (row_at (rows_of s) i) e v s) s)
  set_form s p i e v (Ok u) g is f h =
      let l = set_laid s p i e v u g.accepted is h in
      let new = value_laid (row_at (rows_of s) i) e v s in
      record {
        len = f.len ∙ sym (framed_len s new i e l.was.word l.new);
        form = λ j. f.form j ∙ sym (framed_form s new i e l.was.word l.new l.there j);
        long = f.long ∙ sym l.new.long;
      }
  set_form s p i e v (Err x) g is f h = f

module _ (first : List ℕ) {S : Type 0} where
  -- what one call lays at place k
  abbrev LaidBy : ℕ → List ℕ → (c : Call S) → Answer c → List ℕ → Type 0
  LaidBy k s c a s' = Lays first k (get_or s' k 0) c a ⊎ (((b : ℕ) → Lays first k b c a → ⊥) × (get_or s' k 0 ≡ get_or s k 0))

  lays : (k : ℕ) (s : List ℕ) (c : Call S) (a : Answer c) → Good s → Valued c → SameForm first s → a ≡ answer s c → LaidBy k s c a (after s c)
  lays k s (looks i e) a g is f h = inr ((λ b l. l), refl)
  lays k s (sets p i e v) a g is f h = subst (λ q. LaidBy k s (sets p i e v) a (if_accepted q (value_laid (row_at (rows_of s) i) e v s) s)) h (set_lays first k s p i e v a g is f h)
  lays k s rereads a g is f h = inr ((λ b l. l), refl)
  lays k s (tours_bytes rule x) a g is f h = inr ((λ b l. l), refl)
  lays k s (tours_rows rule x) a g is f h = inr ((λ b l. l), refl)

  pub after_form : (s : List ℕ) (c : Call S) → Good s → Valued c → SameForm first s → SameForm first (after s c)
  after_form s (looks i e) g is f = f
  after_form s (sets p i e v) g is f = set_form first s p i e v (set_by (rows_of s) (word_of s) p i e v) g is f refl
  after_form s rereads g is f = f
  after_form s (tours_bytes rule x) g is f = f
  after_form s (tours_rows rule x) g is f = f

  -- what a list of calls leaves at place k
  abbrev pub LeftAt : ℕ → List ℕ → List (Exchange S) → List ℕ → Type 0
  LeftAt k s xs s' = LastLaid first k (get_or s' k 0) xs ⊎ (Untouched first k xs × (get_or s' k 0 ≡ get_or s k 0))

  -- one call in front of a list of calls
  in_front : (k : ℕ) (s s₁ s' : List ℕ) (x : Exchange S) (xs : List (Exchange S)) → LaidBy k s x.0 x.1 s₁ → LeftAt k s₁ xs s' → LeftAt k s (x ∷ xs) s'
  in_front k s s₁ s' x xs one (inl l) =
      inl (record { before = x ∷ l.before; laying = l.laying; later = l.later; split = ap (λ ys. x ∷ ys) l.split; lays = l.lays; last = l.last })
  in_front k s s₁ s' x xs (inl l) (inr u) =
      inl (record { before = []; laying = x; later = xs; split = refl; lays = subst (λ b. Lays first k b x.0 x.1) (sym u.1) l; last = u.0 })
  in_front k s s₁ s' x xs (inr n) (inr u) = inr ((n.0, u.0), u.1 ∙ n.1)

  pub one_in_front : (k : ℕ) (s s' : List ℕ) (x : Exchange S) (xs : List (Exchange S)) → Good s → Valued x.0 → SameForm first s → x.1 ≡ answer s x.0 → LeftAt k (after s x.0) xs s' → LeftAt k s (x ∷ xs) s'
  one_in_front k s s' x xs g is f h rest = in_front k s (after s x.0) s' x xs (lays k s x.0 x.1 g is f h) rest
