-- Reading the body of a kind. Assumes nothing.
use Rattle.std.specs.Prelude.{ℕ, cond, List, length, take, Ok, Err, Result, nat_lt}
use Rattle.refusals.specs.declared.Why.{Why}
use Rattle.refusals.specs.declared.Why.TheVariants.{Missing}
use Rattle.words.specs.Words.{little}
use Rattle.kinds.specs.declared.kind.Kind.{Kind}
use Rattle.kinds.specs.Kinds.{size_of, word_of}

-- the first n bytes, or a refusal where fewer are there
abbrev pub front_read : (n : ℕ) → List ℕ → Result (List ℕ) Why
front_read n body = cond (nat_lt (length body) n) (Err Missing) (Ok (take n body))

-- the number in the first s bytes, or a refusal where fewer are there
abbrev pub number_read : (s : ℕ) → List ℕ → Result ℕ Why
number_read s body = cond (nat_lt (length body) s) (Err Missing) (Ok (little s 0 body))

-- what a body's word means, or a refusal where the body is too short for its kind
abbrev pub body_read : {A : Type 0} → Kind → (ℕ → A) → List ℕ → Result A Why
body_read k means body = cond (nat_lt (length body) (size_of k)) (Err Missing) (Ok (means (word_of k body)))
