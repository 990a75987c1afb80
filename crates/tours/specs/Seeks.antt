-- Looking for the pod of a property. Assumes nothing.
use Rattle.std.specs.Prelude.{ℕ, ◌+◌, ◌-◌, min, cond, ◌&&◌, ◌==◌}
use Rattle.tours.specs.declared.seek.Search.{Search}
use Rattle.tours.specs.declared.seek.Search.TheVariants.{Looking, Due, Found}
use Rattle.tours.specs.declared.seek.Seek.{Seek}
use Rattle.tours.specs.Told.{Content, value, text_of, raw_of, array_of, choice_of, pointer_to, struct_open, object_open, Thing, pod, element, property, end}
use Rattle.tours.specs.Lead.{holds, Rule}

-- with just one container open, a property of the wanted key makes its pod due; the next pod is found, and stays found
abbrev pub sought : (wanted opened : ℕ) → Search → Thing → Search
sought wanted opened Looking (pod place total c) = Looking
sought wanted opened Looking (element kind word) = Looking
sought wanted opened Looking (property key flags) = cond (opened == 1 && key == wanted) Due Looking
sought wanted opened Looking end = Looking
sought wanted opened Due (pod place total c) = Found place
sought wanted opened Due (element kind word) = Due
sought wanted opened Due (property key flags) = Due
sought wanted opened Due end = Due
sought wanted opened (Found place) t = Found place

-- one more container, up to the largest number of 32 bits
abbrev pub deeper : ℕ → Content → ℕ
deeper n (value kind word) = n
deeper n (text_of part) = n
deeper n (raw_of part) = n
deeper n (array_of child count) = n
deeper n (choice_of child type flags count default) = n
deeper n (pointer_to type word) = n
deeper n struct_open = min (n + 1) 4294967295
deeper n (object_open type id) = min (n + 1) 4294967295

-- how many containers are then open
abbrev pub opens : ℕ → Thing → ℕ
opens n (pod place total c) = deeper n c
opens n (element kind word) = n
opens n (property key flags) = n
opens n end = n - 1

abbrev pub seeks : Rule Seek
seeks s t = holds record { wanted = s.wanted; opened = opens s.opened t; search = sought s.wanted s.opened s.search t }
