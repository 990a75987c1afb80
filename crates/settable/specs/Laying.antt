-- Laying a word: its bytes in the place of those at the front of a body. Assumes nothing.
use Rattle.std.specs.Prelude.{ℕ, cond, List, length, Some, None, Ok, Err, Option, Result, nat_lt}
use Rattle.refusals.specs.declared.Why.{Why}
use Rattle.refusals.specs.declared.Why.TheVariants.{Missing, NotANumber}
use Rattle.words.specs.Words.{bytes_of, lay}
use Rattle.kinds.specs.declared.kind.Kind.{Kind}
use Rattle.kinds.specs.Kinds.{size_of}

-- a word that there is not, of what is not a number, is refused; and so is a body that is too short
abbrev pub lay_answer : Kind → Option ℕ → List ℕ → Result (Unit {0}) Why
lay_answer k None body = Err NotANumber
lay_answer k (Some w) body = cond (nat_lt (length body) (size_of k)) (Err Missing) (Ok tt)

-- the body then: a refusal leaves it
abbrev pub lay_body : Kind → Option ℕ → List ℕ → List ℕ
lay_body k None body = body
lay_body k (Some w) body = cond (nat_lt (length body) (size_of k)) body (lay 0 (bytes_of (size_of k) w) body)
