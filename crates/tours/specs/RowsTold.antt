-- What rows tell: elements, text and raw bytes come from the bytes, all else from the rows. Any rows and bytes tell
-- something. Assumes nothing.
use Rattle.std.specs.Prelude.{ℕ, ◌+◌, ◌-◌, ◌/◌, ◌%◌, ◌^◌, min, cond, List, [], ◌∷◌, ◌++◌, map, length, take, drop, Some, None, Option, ◌==◌}
use Rattle.kinds.specs.declared.kind.Kind.{Kind}
use Rattle.kinds.specs.Kinds.{kind_of, size_of, type_of}
use Rattle.pods.specs.declared.holding.Holds.{Holds}
use Rattle.pods.specs.declared.holding.Holds.TheVariants.{Fields, Properties}
use Rattle.pods.specs.declared.rows.Row.{Row}
use Rattle.pods.specs.Trees.{past}
use Rattle.pods.specs.Leaves.{values}
use Rattle.tours.specs.declared.open.Frame.{Frame}
use Rattle.tours.specs.Told.{Content, value, text_of, raw_of, array_of, choice_of, pointer_to, struct_open, object_open, Thing, pod, element, end, named}
use Rattle.tours.specs.Stack.{charged, holding, pushed}

-- n bytes from a place on, as far as they are there
abbrev pub part : (n from : ℕ) → List ℕ → List ℕ
part n from bytes = take n (drop from bytes)

-- what a row says of its pod
abbrev pub row_content : List ℕ → Row → Content
row_content bytes r =
    cond (r.kind == 8) (text_of (part r.count (r.place + 8) bytes))
    (cond (r.kind == 9) (raw_of (part r.count (r.place + 8) bytes))
    (cond (r.kind == 13) (array_of r.child r.count)
    (cond (r.kind == 14) struct_open
    (cond (r.kind == 15) (object_open (r.word % 2 ^ 32) (r.word / 2 ^ 32))
    (cond (r.kind == 17) (pointer_to r.side r.word)
    (cond (r.kind == 19) (choice_of r.child r.side r.bits r.count r.word) (value r.kind r.word)))))))

-- at most n values of a kind from a place on, as many as are there; None has none
abbrev pub values_there : Kind → (n from : ℕ) → List ℕ → List ℕ
values_there k n from bytes =
    cond (size_of k == 0) [] (values k (size_of k) (min n ((length bytes - from) / size_of k)) (drop from bytes))

abbrev pub elements_at : Option Kind → (n from : ℕ) → List ℕ → List Thing
elements_at None n from bytes = []
elements_at (Some k) n from bytes = map (element (type_of k)) (values_there k n from bytes)

-- the values of an array or choice
abbrev pub row_elements : List ℕ → Row → List Thing
row_elements bytes r =
    cond (r.kind == 13) (elements_at (kind_of r.child) r.count (r.place + 16) bytes)
    (cond (r.kind == 19) (elements_at (kind_of r.child) r.count (r.place + 24) bytes) [])

-- the ends of the innermost containers that have no bytes left, and what is then open
abbrev pub ends : List Frame → List Thing
ends [] = []
ends (f ∷ outer) = cond (f.remaining == 0) (end ∷ ends outer) []

abbrev pub unended : List Frame → List Frame
unended [] = []
unended (f ∷ outer) = cond (f.remaining == 0) (unended outer) (f ∷ outer)

-- the container that a row opens
abbrev pub frame_of : Row → Option Frame
frame_of r =
    cond (r.kind == 14) (Some record { holds = Fields; remaining = r.total - 8 })
    (cond (r.kind == 15) (Some record { holds = Properties; remaining = r.total - 16 }) None)

abbrev pub inside : Option Frame → List Frame → List Frame
inside None fs = fs
inside (Some f) fs = pushed f fs

-- what is open behind a row, or inside it
abbrev pub behind : Row → List Frame → List Frame
behind r fs = inside (frame_of r) (charged (past (holding fs) r.total) fs)

-- a row with its property, pod and values
abbrev pub row_tells : List ℕ → Holds → Row → List Thing
row_tells bytes h r = named h r.key r.flags ++ (pod r.place r.total (row_content bytes r) ∷ row_elements bytes r)

-- what rows tell where these containers are open
abbrev pub rows_tell : List ℕ → List Frame → List Row → List Thing
rows_tell bytes fs [] = ends fs
rows_tell bytes fs (r ∷ rs) = ends fs ++ (row_tells bytes (holding (unended fs)) r ++ rows_tell bytes (behind r (unended fs)) rs)
