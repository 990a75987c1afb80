-- The written form of told things. Assumes nothing.
use Rattle.std.specs.Prelude.{ℕ, ◌+◌, ◌-◌, ◌/◌, ◌%◌, ◌^◌, Bool, true, false, cond, List, [], ◌∷◌, ◌++◌, length, codes, decimal, Option, ◌==◌, nat_le, nat_lt}
use Rattle.std.specs.declared.option.Option.TheVariants as o
use Rattle.kinds.specs.declared.kind.Kind.{Kind}
use Rattle.kinds.specs.declared.kind.Kind.TheVariants as k
use Rattle.kinds.specs.Kinds.{kind_of}
use Rattle.tours.specs.Told.{Content, value, text_of, raw_of, array_of, choice_of, pointer_to, struct_open, object_open, Thing, pod, element, property, end}
use Rattle.tours.specs.Lead.{holds, refuses, Rule}
use Rattle.cuevalues.specs.Hex.{digits_of}
use Rattle.cuevalues.specs.Parts.{bits_of}

abbrev pub kind_name : Option Kind → List ℕ
kind_name (o.Some k.None) = codes "none"
kind_name (o.Some k.Bool) = codes "bool"
kind_name (o.Some k.Id) = codes "id"
kind_name (o.Some k.Int) = codes "int"
kind_name (o.Some k.Long) = codes "long"
kind_name (o.Some k.Float) = codes "float"
kind_name (o.Some k.Double) = codes "double"
kind_name (o.Some k.Rectangle) = codes "rectangle"
kind_name (o.Some k.Fraction) = codes "fraction"
kind_name (o.Some k.Fd) = codes "fd"
kind_name o.None = codes "unknown"

abbrev pub name_of : ℕ → List ℕ
name_of kind = kind_name (kind_of kind)

-- the signed number that 32 bits stand for
abbrev pub int_of : ℕ → List ℕ
int_of w = cond (nat_lt w (2 ^ 31)) (decimal w) (45 ∷ decimal (2 ^ 32 - w))

-- the signed number that 64 bits stand for
abbrev pub long_of : ℕ → List ℕ
long_of w = cond (nat_lt w (2 ^ 63)) (decimal w) (45 ∷ decimal (2 ^ 64 - w))

-- the lower and the upper 32 bits
abbrev pub pair_of : ℕ → ℕ → List ℕ
pair_of between w = decimal (w % 2 ^ 32) ++ (between ∷ decimal (w / 2 ^ 32))

abbrev pub kind_value : Option Kind → ℕ → List ℕ
kind_value (o.Some k.None) w = decimal w
kind_value (o.Some k.Bool) w = decimal w
kind_value (o.Some k.Id) w = decimal w
kind_value (o.Some k.Int) w = int_of w
kind_value (o.Some k.Long) w = long_of w
kind_value (o.Some k.Float) w = bits_of 8 w
kind_value (o.Some k.Double) w = bits_of 16 w
kind_value (o.Some k.Rectangle) w = pair_of 120 w
kind_value (o.Some k.Fraction) w = pair_of 47 w
kind_value (o.Some k.Fd) w = long_of w
kind_value o.None w = decimal w

-- a word as a value of a kind
abbrev pub value_of : ℕ → ℕ → List ℕ
value_of kind w = kind_value (kind_of kind) w

abbrev pub line : List (List ℕ) → List ℕ
line [] = []
line (x ∷ xs) = x ++ line xs

-- a semicolon stands before what follows a value in the same container
abbrev pub separator : Bool → List ℕ
separator joined = cond joined (codes ";") []

-- the bracket before so many values, shut at once where there are none
abbrev pub bracket : ℕ → List ℕ
bracket count = cond (count == 0) (codes "[]") (codes "[")

-- what follows a value where `left` values were to come with it
abbrev pub follows : ℕ → List ℕ
follows left = cond (nat_lt 1 left) (codes ",") (codes "]")

abbrev pub content_text : Bool → Content → List ℕ
content_text j (value kind w) = line (separator j ∷ name_of kind ∷ codes ":" ∷ value_of kind w ∷ [])
content_text j (text_of part) = line (separator j ∷ codes "text:" ∷ digits_of part ∷ [])
content_text j (raw_of part) = line (separator j ∷ codes "raw:" ∷ digits_of part ∷ [])
content_text j (array_of child count) = line (separator j ∷ codes "array:" ∷ name_of child ∷ bracket count ∷ [])
content_text j (choice_of child type flags count default) =
    line (separator j ∷ codes "choice:" ∷ name_of child ∷ codes ":" ∷ decimal type ∷ codes ":" ∷ decimal flags ∷ bracket count ∷ [])
content_text j (pointer_to type w) = line (separator j ∷ codes "pointer:" ∷ decimal type ∷ codes ":" ∷ decimal w ∷ [])
content_text j struct_open = line (separator j ∷ codes "struct(" ∷ [])
content_text j (object_open type id) = line (separator j ∷ codes "object:" ∷ decimal type ∷ codes ":" ∷ decimal id ∷ codes "(" ∷ [])

-- the text of one told thing
abbrev pub thing_text : Bool → ℕ → Thing → List ℕ
thing_text j left (pod place total c) = content_text j c
thing_text j left (element kind w) = line (value_of kind w ∷ follows left ∷ [])
thing_text j left (property key flags) = line (separator j ∷ decimal key ∷ codes ":" ∷ decimal flags ∷ codes "=" ∷ [])
thing_text j left end = line (codes ")" ∷ [])

abbrev pub content_joins : Content → Bool
content_joins (value kind w) = true
content_joins (text_of part) = true
content_joins (raw_of part) = true
content_joins (array_of child count) = true
content_joins (choice_of child type flags count default) = true
content_joins (pointer_to type w) = true
content_joins struct_open = false
content_joins (object_open type id) = false

-- whether what follows a told thing needs a semicolon
abbrev pub joins : Bool → Thing → Bool
joins j (pod place total c) = content_joins c
joins j (element kind w) = j
joins j (property key flags) = false
joins j end = true

abbrev pub content_leaves : ℕ → Content → ℕ
content_leaves left (value kind w) = left
content_leaves left (text_of part) = left
content_leaves left (raw_of part) = left
content_leaves left (array_of child count) = count
content_leaves left (choice_of child type flags count default) = count
content_leaves left (pointer_to type w) = left
content_leaves left struct_open = left
content_leaves left (object_open type id) = left

-- how many values of an array or choice are then to come
abbrev pub leaves : ℕ → Thing → ℕ
leaves left (pod place total c) = content_leaves left c
leaves left (element kind w) = left - 1
leaves left (property key flags) = left
leaves left end = left

-- the text so far, whether a semicolon is due, and how many values are to come
pub record Written : Type 0 where
  pub text : List ℕ
  pub joined : Bool
  pub left : ℕ

-- the text of a told thing is added, or refused with 1 where it does not fit
abbrev pub writes : Rule Written
writes h t =
    cond (nat_le (length h.text + length (thing_text h.joined h.left t)) 262144)
    (holds record { text = h.text ++ thing_text h.joined h.left t; joined = joins h.joined t; left = leaves h.left t })
    (refuses 1)
