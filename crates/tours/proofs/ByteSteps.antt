-- One step of a tour of bytes. Assumes nothing.
use Rattle.std.proofs.Common.{◌≡◌, ℕ, zero, suc, ◌+◌, ◌-◌, ◌<◌, ◌≤◌, Bool, true, false, ltb, List, [], ◌∷◌, ◌++◌, length, drop, Some, None, sym, refl, ap, ◌∙◌, subst, arith}
use Rattle.std.proofs.Math.Logic.{∥∥₁_elim}
use Rattle.std.proofs.Props.{props}
use Rattle.std.proofs.lemmas.List.{append_assoc, append-nil}
use Rattle.std.proofs.lemmas.Bool.{lt-ltb}
use Rattle.words.specs.Words.{little}
use Rattle.pods.specs.declared.holding.Holds.{Holds}
use Rattle.pods.specs.declared.holding.Holds.TheVariants.{Fields, Properties}
use Rattle.pods.specs.Trees.{Tree, Forest, Leaf, leaf, struct, object, none, more, past, total, totals, deep, deepest}
use Rattle.pods.specs.Pods.{items, pod, spot_at}
use Rattle.format.specs.Layout.{Named, Laid, AllLaid}
use Rattle.format.proofs.Trees.{pod_read_lem, items_read, laid_there, total_eight}
use Rattle.tours.specs.declared.elements.Elements.{Elements}
use Rattle.tours.specs.declared.open.Frame.{Frame}
use Rattle.tours.specs.declared.starts.Start.{Start}
use Rattle.tours.specs.declared.starts.Then.TheVariants.{On, Values, Into}
use Rattle.tours.specs.declared.told.Told.{Told}
use Rattle.tours.specs.Told as told
use Rattle.tours.specs.Told.{Thing, element, property, end, thing, elements_of, named, tells, tells_all}
use Rattle.tours.specs.Starts.{elements_left, Follows, BeginsTree}
use Rattle.tours.specs.Stack.{innermost, outward, charged, pushed, is_due}
use Rattle.tours.specs.ByteTold.{tree_told, forest_told, frames_told, place_told, unkeyed, to_tell, FramesLaid, KeyedRight, Standing, Due}

abbrev frame : Holds → ℕ → Frame
frame h n = record { holds = h; remaining = n }

pub past_add : (h : Holds) (p n : ℕ) → past h p + n ≡ p + past h n
past_add Fields p n = refl
past_add Properties p n = omega arith

past_le : (h : Holds) (n : ℕ) → n ≤ past h n
past_le Fields n = omega arith
past_le Properties n = omega arith

pub charged_length : (n : ℕ) (fs : List Frame) → length (charged n fs) ≡ length fs
charged_length n [] = refl
charged_length n (f ∷ fs) = refl

-- ---- where a tour stands after its first pod

place_on : (bytes : List ℕ) (p : ℕ) (fs : List Frame) → 0 < p → place_told bytes p fs ≡ frames_told bytes p fs
place_on bytes zero fs h = absurd (omega arith)
place_on bytes (suc p) fs h = refl

standing_on : (bytes : List ℕ) (p : ℕ) (fs : List Frame) (keyed : Bool) → 0 < p → p ≤ length bytes → FramesLaid bytes p fs → KeyedRight keyed fs → Standing bytes p fs keyed
standing_on bytes zero fs keyed h a b k = absurd (omega arith)
standing_on bytes (suc p) fs keyed h a b k = (a, b, k)

standing_read : (bytes : List ℕ) (p : ℕ) (fs : List Frame) (keyed : Bool) → 0 < p → Standing bytes p fs keyed → (p ≤ length bytes) × FramesLaid bytes p fs × KeyedRight keyed fs
standing_read bytes zero fs keyed h s = absurd (omega arith)
standing_read bytes (suc p) fs keyed h s = s

-- what a container with bytes left still tells
forest_told_lem : (bytes : List ℕ) (h : Holds) (p n : ℕ) (f : Forest) → n ≡ totals h f → AllLaid bytes h f p → deepest f ≤ 32 → forest_told h p (items h (pod 32 1) (spot_at 0 1) n n p (drop p bytes)) ≡ tells_all h f p
forest_told_lem bytes h p n f e all deep_le = ap (forest_told h p) (items_read bytes h f 32 1 (spot_at 0 1) n n p e (omega arith) all deep_le)

-- ---- the pod that is due

pub record Taking (bytes : List ℕ) (p : ℕ) (fs : List Frame) (keyed : Bool) (h : Holds) : Type 0 where
  pub tree : Tree
  pub laid : Laid bytes tree (past h p)
  pub told : to_tell bytes p fs keyed ≡ tells tree (past h p) ++ frames_told bytes (p + past h (total tree)) (charged (past h (total tree)) fs)
  pub after : FramesLaid bytes (p + past h (total tree)) (charged (past h (total tree)) fs)
  pub room : deep tree + length fs ≤ 32
  pub within : p + past h (total tree) ≤ length bytes

first_due : (bytes : List ℕ) (p : ℕ) (keyed : Bool) → p ≡ 0 → Standing bytes p [] keyed → Taking bytes p [] keyed Fields
first_due bytes zero keyed z s =
    let t = s.2.0 in
    let read = pod_read_lem bytes t 32 1 0 s.2.1 s.2.2 in
    let there = laid_there bytes t 0 s.2.1 in
    record {
      tree = t;
      laid = s.2.1;
      told = ap (λ b. unkeyed b (tree_told (pod 32 1 0 bytes))) s.1 ∙ ap tree_told read ∙ sym (append-nil (tells t 0));
      after = tt;
      room = omega (arith, s.2.2);
      within = there;
    }
first_due bytes (suc p) keyed z s = absurd (omega arith)

-- a property's name has been told, and a field has none
name_told : (h : Holds) (keyed : Bool) (key flags : ℕ) (ts : List Thing) → (h ≡ Properties → keyed ≡ true) → (keyed ≡ true → h ≡ Properties) → unkeyed keyed (named h key flags ++ ts) ≡ ts
name_told Fields true key flags ts a b = let e = b refl in let z : ◌≡◌ {A = ℕ} 0 1 = cc in absurd (omega arith)
name_told Fields false key flags ts a b = refl
name_told Properties true key flags ts a b = refl
name_told Properties false key flags ts a b = let e = a refl in let z : ◌≡◌ {A = ℕ} 0 1 = cc in absurd (omega arith)

keyed_holds : (keyed : Bool) (f : Frame) (fs : List Frame) → KeyedRight keyed (f ∷ fs) → keyed ≡ true → f.holds ≡ Properties
keyed_holds true f fs k e = k.0
keyed_holds false f fs k e = let z : ◌≡◌ {A = ℕ} 0 1 = cc in absurd (omega arith)

inner_due : (bytes : List ℕ) (p n : ℕ) (fs : List Frame) (keyed : Bool) (h : Holds) (f : Forest) → 0 < p → 0 < n → n ≡ totals h f → AllLaid bytes h f p → deepest f + suc (length fs) ≤ 32 → FramesLaid bytes (p + n) fs
    → (h ≡ Properties → keyed ≡ true) → (keyed ≡ true → h ≡ Properties) → Taking bytes p (frame h n ∷ fs) keyed h
inner_due bytes p n fs keyed h none pos some e all deep_le rest a b = absurd (omega arith)
inner_due bytes p n fs keyed h (more key flags t f) pos some e all deep_le rest a b =
    let m : ℕ = past h (total t) in
    let left : n - m ≡ totals h f = omega arith in
    let on : p + m + (n - m) ≡ p + n = omega arith in
    let there = laid_there bytes t (past h p) all.1 in
    let R : List Thing = end ∷ frames_told bytes (p + n) fs in
    record {
      tree = t;
      laid = all.1;
      told = ap (unkeyed keyed) (place_on bytes p (frame h n ∷ fs) pos
          ∙ ap (λ x. x ++ R) (forest_told_lem bytes h p n (more key flags t f) e all (omega (arith, deep_le)))
          ∙ append_assoc (named h key flags) (tells t (past h p) ++ tells_all h f (p + m)) R)
          ∙ name_told h keyed key flags ((tells t (past h p) ++ tells_all h f (p + m)) ++ R) a b
          ∙ append_assoc (tells t (past h p)) (tells_all h f (p + m)) R
          ∙ ap (λ x. tells t (past h p) ++ x) (ap (λ x. x ++ R) (sym (forest_told_lem bytes h (p + m) (n - m) f left all.2 (omega (arith, deep_le))))
          ∙ ap (λ q. forest_told h (p + m) (items h (pod 32 1) (spot_at 0 1) (n - m) (n - m) (p + m) (drop (p + m) bytes)) ++ (end ∷ frames_told bytes q fs)) (sym on));
      after = ((f, left, all.2, omega (arith, deep_le)), subst (λ q. FramesLaid bytes q fs) (sym on) rest);
      room = omega (arith, deep_le);
      within = omega (arith, there, past_add h p (total t));
    }

take_due : (bytes : List ℕ) (p : ℕ) (fs : List Frame) (keyed : Bool) (h : Holds) → Standing bytes p fs keyed → Due h p fs keyed → Taking bytes p fs keyed h
take_due bytes p [] keyed h s d = subst (λ x. Taking bytes p [] keyed x) (sym d.1) (first_due bytes p keyed d.0 s)
take_due bytes p (f ∷ fs) keyed h s d =
    let st = standing_read bytes p (f ∷ fs) keyed d.0 s in
    let l = st.1.0 in
    subst (λ x. Taking bytes p (f ∷ fs) keyed x) d.1
    (inner_due bytes p f.remaining fs keyed f.holds l.0 d.0 d.2 l.1 l.2 l.3 st.1.1 (λ e. d.3 (sym d.1 ∙ e)) (keyed_holds keyed f fs st.2))

-- ---- the steps

-- a thing is told, and then these things and what is left where the tour stands then
pub record Step (bytes : List ℕ) (p : ℕ) (fs : List Frame) (keyed : Bool) (t : Told) (ts : List Thing) (p' : ℕ) (fs' : List Frame) (keyed' : Bool) : Type 0 where
  pub stays : ∥ Standing bytes p' fs' keyed' ∥₁
  pub next : to_tell bytes p fs keyed ≡ thing t ∷ (ts ++ to_tell bytes p' fs' keyed')

-- what stands after a pod has been told
module _ (bytes : List ℕ) (p : ℕ) (fs : List Frame) (keyed : Bool) (h : Holds) where
  leaf_step : (l : Leaf) (size : ℕ) (s : Start) (p' : ℕ) (fs' : List Frame) (t : Taking bytes p fs keyed h) → t.tree ≡ leaf l size
      → thing s.told ≡ told.pod (past h p) (size + 8) (told.content_of l) → s.total ≡ size + 8
      → fs' ≡ charged (past h s.total) fs → p' ≡ past h p + s.total → Step bytes p fs keyed s.told (elements_of l) p' fs' false
  leaf_step l size s p' fs' t is told_is total_is fs-is p-is =
      let all : total t.tree ≡ size + 8 = ap total is in
      let same : s.total ≡ total t.tree = total_is ∙ sym all in
      let place : p' ≡ p + past h (total t.tree) = p-is ∙ past_add h p s.total ∙ ap (λ n. p + past h n) same in
      let frames : fs' ≡ charged (past h (total t.tree)) fs = fs-is ∙ ap (λ n. charged (past h n) fs) same in
      let big = past_le h (total t.tree) in
      let pos : 0 < p' = omega arith in
      let rest : place_told bytes p' fs' ≡ frames_told bytes (p + past h (total t.tree)) (charged (past h (total t.tree)) fs) =
      place_on bytes p' fs' pos ∙ ap (λ q. frames_told bytes q fs') place ∙ ap (frames_told bytes (p + past h (total t.tree))) frames in
      record {
        stays = ∣ standing_on bytes p' fs' false pos (omega (arith, t.within))
            (subst (λ q. FramesLaid bytes q fs') (sym place) (subst (FramesLaid bytes (p + past h (total t.tree))) (sym frames) t.after)) tt ∣₁;
        next = t.told
            ∙ ap (λ x. tells x (past h p) ++ frames_told bytes (p + past h (total t.tree)) (charged (past h (total t.tree)) fs)) is
            ∙ ap (λ x. x ∷ (elements_of l ++ frames_told bytes (p + past h (total t.tree)) (charged (past h (total t.tree)) fs))) (sym told_is)
            ∙ ap (λ x. thing s.told ∷ (elements_of l ++ x)) (sym rest);
      }

  take_on : (s : Start) (p' : ℕ) (fs' : List Frame) (t : Taking bytes p fs keyed h) (x : Tree) → t.tree ≡ x → BeginsTree (past h p) x (Some s) → s.then ≡ On
      → fs' ≡ charged (past h s.total) fs → p' ≡ past h p + s.total → Step bytes p fs keyed s.told [] p' fs' false
  take_on s p' fs' t (leaf l size) is b on fs-is p-is =
      let f = subst (λ x. Follows x (elements_of l)) on b.then_is in
      subst (λ ts. Step bytes p fs keyed s.told ts p' fs' false) f (leaf_step l size s p' fs' t is b.told_is b.total_is fs-is p-is)
  take_on s p' fs' t (struct f) is b on fs-is p-is = let w = b.then_is in let q : ◌≡◌ {A = ℕ} 0 1 = cc in absurd (omega arith)
  take_on s p' fs' t (object type id f) is b on fs-is p-is = let w = b.then_is in let q : ◌≡◌ {A = ℕ} 0 1 = cc in absurd (omega arith)

  take_values : (s : Start) (p' : ℕ) (fs' : List Frame) (e : Elements) (t : Taking bytes p fs keyed h) (x : Tree) → t.tree ≡ x → BeginsTree (past h p) x (Some s) → s.then ≡ Values e
      → fs' ≡ charged (past h s.total) fs → p' ≡ past h p + s.total → Step bytes p fs keyed s.told (elements_left e) p' fs' false
  take_values s p' fs' e t (leaf l size) is b on fs-is p-is =
      let f = subst (λ x. Follows x (elements_of l)) on b.then_is in
      subst (λ ts. Step bytes p fs keyed s.told ts p' fs' false) f (leaf_step l size s p' fs' t is b.told_is b.total_is fs-is p-is)
  take_values s p' fs' e t (struct f) is b on fs-is p-is = let w = b.then_is in let q : ◌≡◌ {A = ℕ} 0 1 = cc in absurd (omega arith)
  take_values s p' fs' e t (object type id f) is b on fs-is p-is = let w = b.then_is in let q : ◌≡◌ {A = ℕ} 0 1 = cc in absurd (omega arith)

  -- into a container: `gap` bytes stand before what it holds
  open_step : (x : Thing) (t : Taking bytes p fs keyed h) (held : Holds) (f : Forest) (gap n p' : ℕ) (fs₁ fs' : List Frame) (told : Told)
      → total t.tree ≡ totals held f + gap → suc (deepest f) ≡ deep t.tree → 0 < gap → AllLaid bytes held f (past h p + gap)
      → tells t.tree (past h p) ≡ x ∷ (tells_all held f (past h p + gap) ++ end ∷ []) → thing told ≡ x
      → fs₁ ≡ charged (past h (total t.tree)) fs → n ≡ total t.tree - gap → fs' ≡ pushed (frame held n) fs₁ → p' ≡ past h p + gap
      → Step bytes p fs keyed told [] p' fs' false
  open_step x t held f gap n p' fs₁ fs' told total_is deep_is some all tells-are told_is frames-are n_is fs-is p-is =
      let m : ℕ = total t.tree in
      let q : ℕ = p + past h m in
      let outer : List Frame = charged (past h m) fs in
      let rem : n ≡ totals held f = omega arith in
      let on : p' + n ≡ q = omega (arith, past_add h p m) in
      let few : ltb (length fs₁) 32 ≡ true = lt-ltb (length fs₁) 32 (omega (arith, t.room, ap length frames-are, charged_length (past h m) fs)) in
      let all_frames : fs' ≡ frame held n ∷ outer = fs-is ∙ rw few (ap (λ x. frame held n ∷ x) frames-are) in
      let pos : 0 < p' = omega arith in
      let R : List Thing = end ∷ frames_told bytes q outer in
      let deep_le : deepest f ≤ 32 = omega (arith, t.room) in
      let inside : frames_told bytes p' (frame held n ∷ outer) ≡ tells_all held f (past h p + gap) ++ R =
      ap (λ x. x ++ (end ∷ frames_told bytes (p' + n) outer)) (forest_told_lem bytes held p' n f rem (subst (AllLaid bytes held f) (sym p-is) all) deep_le)
      ∙ ap (λ y. tells_all held f y ++ (end ∷ frames_told bytes (p' + n) outer)) p-is
      ∙ ap (λ y. tells_all held f (past h p + gap) ++ (end ∷ frames_told bytes y outer)) on in
      let rest : place_told bytes p' fs' ≡ tells_all held f (past h p + gap) ++ R = place_on bytes p' fs' pos ∙ ap (frames_told bytes p') all_frames ∙ inside in
      record {
        stays = ∣ standing_on bytes p' fs' false pos (omega (arith, t.within))
            (subst (FramesLaid bytes p') (sym all_frames)
            ((f, rem, subst (AllLaid bytes held f) (sym p-is) all, omega (arith, t.room, charged_length (past h m) fs)), subst (λ y. FramesLaid bytes y outer) (sym on) t.after)) tt ∣₁;
        next = t.told
            ∙ ap (λ y. y ++ frames_told bytes q outer) tells-are
            ∙ ap (λ y. x ∷ y) (append_assoc (tells_all held f (past h p + gap)) (end ∷ []) (frames_told bytes q outer) ∙ sym rest)
            ∙ ap (λ y. y ∷ place_told bytes p' fs') (sym told_is);
      }

  module _ (s : Start) (p' : ℕ) (fs₁ fs' : List Frame) (t : Taking bytes p fs keyed h) (frames-are : fs₁ ≡ charged (past h s.total) fs) where
    take_fields : (x : Tree) → t.tree ≡ x → BeginsTree (past h p) x (Some s) → s.then ≡ Into Fields
        → fs' ≡ pushed (frame Fields (s.total - 8)) fs₁ → p' ≡ past h p + 8 → Step bytes p fs keyed s.told [] p' fs' false
    take_fields (leaf l size) is b on fs-is p-is = absurd (subst (λ x. Follows x (elements_of l)) on b.then_is)
    take_fields (struct f) is b on fs-is p-is =
        let laid = subst (λ x. Laid bytes x (past h p)) is t.laid in
        let same : s.total ≡ total t.tree = b.total_is ∙ sym (ap total is) in
        open_step _ t Fields f 8 (s.total - 8) p' fs₁ fs' s.told (ap total is) (sym (ap deep is)) (omega arith) laid.2 (ap (λ x. tells x (past h p)) is) b.told_is
        (frames-are ∙ ap (λ n. charged (past h n) fs) same) (ap (λ n. n - 8) same) fs-is p-is
    take_fields (object type id f) is b on fs-is p-is = let w = b.then_is in let v : Fields ≡ Properties = cc in let q : ◌≡◌ {A = ℕ} 0 1 = cc in absurd (omega arith)

    take_properties : (x : Tree) → t.tree ≡ x → BeginsTree (past h p) x (Some s) → s.then ≡ Into Properties
        → fs' ≡ pushed (frame Properties (s.total - 16)) fs₁ → p' ≡ past h p + 16 → Step bytes p fs keyed s.told [] p' fs' false
    take_properties (leaf l size) is b on fs-is p-is = absurd (subst (λ x. Follows x (elements_of l)) on b.then_is)
    take_properties (struct f) is b on fs-is p-is = let w = b.then_is in let v : Fields ≡ Properties = cc in let q : ◌≡◌ {A = ℕ} 0 1 = cc in absurd (omega arith)
    take_properties (object type id f) is b on fs-is p-is =
        let laid = subst (λ x. Laid bytes x (past h p)) is t.laid in
        let same : s.total ≡ total t.tree = b.total_is ∙ sym (ap total is) in
        open_step _ t Properties f 16 (s.total - 16) p' fs₁ fs' s.told (ap total is) (sym (ap deep is)) (omega arith) laid.4 (ap (λ x. tells x (past h p)) is) b.told_is
        (frames-are ∙ ap (λ n. charged (past h n) fs) same) (ap (λ n. n - 16) same) fs-is p-is

-- ---- the start of the pod that is due

-- a pod that is laid out starts
begins_none : (q : ℕ) (t : Tree) → BeginsTree q t None → ⊥
begins_none q (leaf l size) b = b
begins_none q (struct f) b = b
begins_none q (object type id f) b = b

begins_total : (q : ℕ) (t : Tree) (s : Start) → BeginsTree q t (Some s) → s.total ≡ total t
begins_total q (leaf l size) s b = b.total_is
begins_total q (struct f) s b = b.total_is
begins_total q (object type id f) s b = b.total_is

properties_sixteen : (q : ℕ) (t : Tree) (s : Start) → BeginsTree q t (Some s) → s.then ≡ Into Properties → 16 ≤ s.total
properties_sixteen q (leaf l size) s b on = absurd (subst (λ x. Follows x (elements_of l)) on b.then_is)
properties_sixteen q (struct f) s b on = let w = b.then_is in let v : Fields ≡ Properties = cc in let q : ◌≡◌ {A = ℕ} 0 1 = cc in absurd (omega arith)
properties_sixteen q (object type id f) s b on = omega (arith, b.total_is)

module _ (bytes : List ℕ) (p : ℕ) (fs : List Frame) (keyed : Bool) (h : Holds) (stands : ∥ Standing bytes p fs keyed ∥₁) (due : Due h p fs keyed) where
  -- it is laid out where it is due
  pub due_there : past h p ≤ length bytes
  due_there = ∥∥₁_elim stands (Prim.hlevel props) (λ s. let t = take_due bytes p fs keyed h s due in let there = laid_there bytes t.tree (past h p) t.laid in omega arith)

  module _ (place : ℕ) (at : place ≡ past h p) where
    -- so it starts
    pub due_starts : ((t : Tree) → Laid bytes t place → BeginsTree place t None) → ⊥
    due_starts starts =
        ∥∥₁_elim stands (Prim.hlevel props)
        (λ s. let t = take_due bytes p fs keyed h s due in begins_none place t.tree (starts t.tree (subst (Laid bytes t.tree) (sym at) t.laid)))

    module _ (s : Start) (starts : (t : Tree) → Laid bytes t place → BeginsTree place t (Some s)) where
      with_start : {B : Type 0} → IsProp B → ((t : Taking bytes p fs keyed h) → BeginsTree (past h p) t.tree (Some s) → B) → B
      with_start prop f =
          ∥∥₁_elim stands prop
          (λ st. let t = take_due bytes p fs keyed h st due in f t (subst (λ q. BeginsTree q t.tree (Some s)) at (starts t.tree (subst (Laid bytes t.tree) (sym at) t.laid))))

      pub start_within : place + s.total ≤ length bytes
      start_within = with_start (Prim.hlevel props) (λ t b. omega (arith, begins_total _ t.tree s b, t.within, at, past_add h p (total t.tree)))

      -- a container takes its opening at least
      pub start_opening : (held : Holds) → s.then ≡ Into held → past held 8 ≤ s.total
      start_opening Fields on = with_start (Prim.hlevel props) (λ t b. omega (arith, begins_total _ t.tree s b, total_eight t.tree))
      start_opening Properties on = with_start (Prim.hlevel props) (λ t b. properties_sixteen _ t.tree s b on)

      -- and then what comes after it is due
      module _ (p' : ℕ) (fs' : List Frame) (frames-are : fs' ≡ charged (past h s.total) fs) (on : p' ≡ place + s.total) where
        pub on_step : s.then ≡ On → Step bytes p fs keyed s.told [] p' fs' false
        on_step e = with_start (Prim.hlevel props) (λ t b. take_on bytes p fs keyed h s p' fs' t t.tree refl b e frames-are (on ∙ ap (λ q. q + s.total) at))

        pub values_step : (e : Elements) → s.then ≡ Values e → Step bytes p fs keyed s.told (elements_left e) p' fs' false
        values_step e is = with_start (Prim.hlevel props) (λ t b. take_values bytes p fs keyed h s p' fs' e t t.tree refl b is frames-are (on ∙ ap (λ q. q + s.total) at))

      module _ (p' : ℕ) (fs₁ fs' : List Frame) (frames-are : fs₁ ≡ charged (past h s.total) fs) where
        pub into_step : (held : Holds) → s.then ≡ Into held → fs' ≡ pushed (frame held (s.total - past held 8)) fs₁ → p' ≡ place + past held 8 → Step bytes p fs keyed s.told [] p' fs' false
        into_step Fields e fs-is on = with_start (Prim.hlevel props) (λ t b. take_fields bytes p fs keyed h s p' fs₁ fs' t frames-are t.tree refl b e fs-is (on ∙ ap (λ q. q + 8) at))
        into_step Properties e fs-is on = with_start (Prim.hlevel props) (λ t b. take_properties bytes p fs keyed h s p' fs₁ fs' t frames-are t.tree refl b e fs-is (on ∙ ap (λ q. q + 16) at))

-- ---- ends and properties

module _ (bytes : List ℕ) (p : ℕ) (f : Frame) (fs : List Frame) (keyed : Bool) (s : Standing bytes p (f ∷ fs) keyed) where
  -- with containers open the tour has begun
  begun : 0 < p
  begun = by p s
    where
      by : (q : ℕ) → Standing bytes q (f ∷ fs) keyed → 0 < q
      by zero st = let w = st.0 in let y : ◌≡◌ {A = ℕ} 0 1 = cc in absurd (omega arith)
      by (suc q) st = omega arith

  not_keyed : (b : Bool) → KeyedRight b (f ∷ fs) → f.remaining ≡ 0 → b ≡ false
  not_keyed true k r = absurd (omega (arith, k.1))
  not_keyed false k r = refl

  end_step : f.remaining ≡ 0 → Standing bytes p fs keyed × (to_tell bytes p (f ∷ fs) keyed ≡ end ∷ to_tell bytes p fs keyed)
  end_step r =
      let st = standing_read bytes p (f ∷ fs) keyed begun s in
      let l = st.1.0 in
      let k = not_keyed keyed st.2 r in
      let here : p + f.remaining ≡ p = omega arith in
      let told : forest_told f.holds p (items f.holds (pod 32 1) (spot_at 0 1) f.remaining f.remaining p (drop p bytes)) ≡ tells_all f.holds l.0 p =
      forest_told_lem bytes f.holds p f.remaining l.0 l.1 l.2 (omega (arith, l.3)) in
      let nothing = no_items f.holds l.0 p (sym l.1 ∙ r) in (
        standing_on bytes p fs keyed begun st.0 (subst (λ q. FramesLaid bytes q fs) here st.1.1) (subst (λ b. KeyedRight b fs) (sym k) tt),
        ap (λ b. unkeyed b (place_told bytes p (f ∷ fs))) k
            ∙ place_on bytes p (f ∷ fs) begun ∙ ap (λ x. x ++ (end ∷ frames_told bytes (p + f.remaining) fs)) (told ∙ nothing)
            ∙ ap (λ q. end ∷ frames_told bytes q fs) here ∙ ap (λ x. end ∷ x) (sym (place_on bytes p fs begun))
            ∙ ap (λ b. end ∷ unkeyed b (place_told bytes p fs)) (sym k),
      )
    where
      no_items : (h : Holds) (g : Forest) (q : ℕ) → totals h g ≡ 0 → tells_all h g q ≡ []
      no_items h none q x = refl
      no_items h (more key flags t g) q x = absurd (omega (arith, past_le h (total t), total_eight t))

  -- the name of a property
  name_of : (key flags n : ℕ) (g : Forest) → f.holds ≡ Properties → n ≡ totals f.holds g → 0 < n → AllLaid bytes f.holds g p → key ≡ little 4 p bytes → flags ≡ little 4 (p + 4) bytes
      → (ts : List Thing) × (tells_all f.holds g p ≡ property key flags ∷ ts) × (p + 8 ≤ length bytes)
  name_of key flags n none h is some all k g = absurd (omega arith)
  name_of key flags n (more key' flags' t g) h is some all k k' = by f.holds h all.0 (laid_there bytes t (past f.holds p) all.1)
    where
      by : (x : Holds) → x ≡ Properties → Named bytes x p key' flags' → past x p + total t ≤ length bytes → (ts : List Thing) × (tells_all x (more key' flags' t g) p ≡ property key flags ∷ ts) × (p + 8 ≤ length bytes)
      by Fields w m there = let y : ◌≡◌ {A = ℕ} 0 1 = cc in absurd (omega arith)
      by Properties w m there =
          let ts : List Thing = tells t (p + 8) ++ tells_all Properties g (p + past Properties (total t)) in
          (ts, ap (λ a. property a flags' ∷ ts) (sym m.0 ∙ sym k) ∙ ap (λ a. property key a ∷ ts) (sym m.1 ∙ sym k'), omega arith)

  name_step : (key flags : ℕ) → f.holds ≡ Properties → 0 < f.remaining → keyed ≡ false → key ≡ little 4 p bytes → flags ≡ little 4 (p + 4) bytes
      → Standing bytes p (f ∷ fs) true × (to_tell bytes p (f ∷ fs) keyed ≡ property key flags ∷ to_tell bytes p (f ∷ fs) true)
  name_step key flags h some k is is' =
      let st = standing_read bytes p (f ∷ fs) keyed begun s in
      let l = st.1.0 in
      let named = name_of key flags f.remaining l.0 h l.1 some l.2 is is' in
      let R : List Thing = end ∷ frames_told bytes (p + f.remaining) fs in
      let told : place_told bytes p (f ∷ fs) ≡ property key flags ∷ (named.0 ++ R) =
      place_on bytes p (f ∷ fs) begun ∙ ap (λ x. x ++ R) (forest_told_lem bytes f.holds p f.remaining l.0 l.1 l.2 (omega (arith, l.3)) ∙ named.1) in (
        standing_on bytes p (f ∷ fs) true begun st.0 st.1 (h, some),
        ap (λ b. unkeyed b (place_told bytes p (f ∷ fs))) k ∙ told ∙ ap (λ x. property key flags ∷ drop 1 x) (sym told),
      )

  -- eight bytes stand there
  name_there : f.holds ≡ Properties → 0 < f.remaining → p + 8 ≤ length bytes
  name_there h some =
      let st = standing_read bytes p (f ∷ fs) keyed begun s in
      let l = st.1.0 in
      (name_of (little 4 p bytes) (little 4 (p + 4) bytes) f.remaining l.0 h l.1 some l.2 refl refl).2

-- ---- by what is open

no_properties : Fields ≡ Properties → ⊥
no_properties e = let y : ◌≡◌ {A = ℕ} 0 1 = cc in omega arith

-- where key and flags are not due, they are told before the pod of a property
told_before : (keyed : Bool) (h : Holds) → false ≡ is_due keyed h → h ≡ Properties → keyed ≡ true
told_before true h d e = refl
told_before false Fields d e = let y : ◌≡◌ {A = ℕ} 0 1 = cc in absurd (omega arith)
told_before false Properties d e = let y : ◌≡◌ {A = ℕ} 0 1 = cc in absurd (omega arith)

due_properties : (keyed : Bool) (h : Holds) → true ≡ is_due keyed h → (h ≡ Properties) × (keyed ≡ false)
due_properties keyed Fields d = let y : ◌≡◌ {A = ℕ} 0 1 = cc in absurd (omega arith)
due_properties true Properties d = let y : ◌≡◌ {A = ℕ} 0 1 = cc in absurd (omega arith)
due_properties false Properties d = (refl, refl)

opened : (fs : List Frame) (f : Frame) → Some f ≡ innermost fs → fs ≡ f ∷ outward fs
opened [] f e = let y : ◌≡◌ {A = ℕ} 0 1 = cc in absurd (omega arith)
opened (g ∷ fs) f e = let same : f ≡ g = cc in ap (λ x. x ∷ fs) (sym same)

closed : (fs : List Frame) → None ≡ innermost fs → fs ≡ []
closed [] e = refl
closed (g ∷ fs) e = let y : ◌≡◌ {A = ℕ} 0 1 = cc in absurd (omega arith)

name_any : (bytes : List ℕ) (p : ℕ) (keyed : Bool) (fs : List Frame) (key flags : ℕ) → Standing bytes p fs keyed → Due Properties p fs true → keyed ≡ false → key ≡ little 4 p bytes → flags ≡ little 4 (p + 4) bytes
    → Standing bytes p fs true × (to_tell bytes p fs keyed ≡ property key flags ∷ to_tell bytes p fs true)
name_any bytes p keyed [] key flags s d k is is' = absurd (no_properties (sym d.1))
name_any bytes p keyed (f ∷ fs) key flags s d k is is' = name_step bytes p f fs keyed s key flags d.1 d.2 k is is'

name_there_any : (bytes : List ℕ) (p : ℕ) (keyed : Bool) (fs : List Frame) → Standing bytes p fs keyed → Due Properties p fs true → p + 8 ≤ length bytes
name_there_any bytes p keyed [] s d = absurd (no_properties (sym d.1))
name_there_any bytes p keyed (f ∷ fs) s d = name_there bytes p f fs keyed s d.1 d.2

module _ (bytes : List ℕ) (p : ℕ) (fs : List Frame) (keyed : Bool) where
  -- the first pod is due
  pub due_first : None ≡ innermost fs → p ≡ 0 → Due Fields p fs keyed
  due_first i q = subst (λ x. Due Fields p x keyed) (sym (closed fs i)) (q, refl)

  module _ (stands : ∥ Standing bytes p fs keyed ∥₁) where
    -- the key and flags of a property that is due
    pub key_there : Due Properties p fs true → p + 8 ≤ length bytes
    key_there d = ∥∥₁_elim stands (Prim.hlevel props) (λ s. name_there_any bytes p keyed fs s d)

    pub key_step : Due Properties p fs true → keyed ≡ false → (key flags : ℕ) → key ≡ little 4 p bytes → flags ≡ little 4 (p + 4) bytes
        → ∥ Standing bytes p fs true ∥₁ × (to_tell bytes p fs keyed ≡ property key flags ∷ to_tell bytes p fs true)
    key_step d k key flags is is' =
        ∥∥₁_elim stands (Prim.hlevel props)
        (λ s. let step = name_any bytes p keyed fs key flags s d k is is' in (∣ step.0 ∣₁, step.1))

    -- all has been told
    pub told_all : None ≡ innermost fs → (p ≡ 0 → ⊥) → to_tell bytes p fs keyed ≡ []
    told_all i q =
        ∥∥₁_elim stands (Prim.hlevel props)
        (λ s.
        let st = standing_read bytes p fs keyed (omega arith) s in
        let k = unkeyed_none keyed fs (closed fs i) st.2 in
        ap (λ b. unkeyed b (place_told bytes p fs)) k ∙ place_on bytes p fs (omega arith) ∙ ap (frames_told bytes p) (closed fs i))
      where
        unkeyed_none : (b : Bool) (gs : List Frame) → gs ≡ [] → KeyedRight b gs → b ≡ false
        unkeyed_none true [] x k = absurd k
        unkeyed_none true (g ∷ gs) x k = let y : ◌≡◌ {A = ℕ} 0 1 = cc in absurd (omega arith)
        unkeyed_none false gs x k = refl

    module _ (f : Frame) (i : Some f ≡ innermost fs) where
      standing_at : Standing bytes p fs keyed → Standing bytes p (f ∷ outward fs) keyed
      standing_at = subst (λ x. Standing bytes p x keyed) (opened fs f i)

      begun_any : 0 < p
      begun_any = ∥∥₁_elim stands (Prim.hlevel props) (λ s. begun bytes p f (outward fs) keyed (standing_at s))

      -- the end of the innermost container
      pub close_step : (fs' : List Frame) → f.remaining ≡ 0 → fs' ≡ outward fs → ∥ Standing bytes p fs' keyed ∥₁ × (to_tell bytes p fs keyed ≡ end ∷ to_tell bytes p fs' keyed)
      close_step fs' r o =
          ∥∥₁_elim stands (Prim.hlevel props)
          (λ s.
          let step = end_step bytes p f (outward fs) keyed (standing_at s) r in
          (∣ subst (λ x. Standing bytes p x keyed) (sym o) step.0 ∣₁, ap (λ x. to_tell bytes p x keyed) (opened fs f i) ∙ step.1 ∙ ap (λ x. end ∷ to_tell bytes p x keyed) (sym o)))

      -- the next pod of a container is due
      pub due_inner : (f.remaining ≡ 0 → ⊥) → false ≡ is_due keyed f.holds → Due f.holds p fs keyed
      due_inner r d = subst (λ x. Due f.holds p x keyed) (sym (opened fs f i)) (begun_any, refl, omega arith, told_before keyed f.holds d)

      pub due_name : (f.remaining ≡ 0 → ⊥) → true ≡ is_due keyed f.holds → Due Properties p fs true
      due_name r d = subst (λ x. Due Properties p x true) (sym (opened fs f i)) (begun_any, (due_properties keyed f.holds d).0, omega arith, λ _. refl)
