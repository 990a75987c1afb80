use Rattle.std.proofs.Common.{◌≡◌, ◌++◌, take}
use Rattle.cuevalues.specs.Hex.{digits_of}
use Rattle.cuevalues.specs.Pages.{text_of}
use Rattle.cuevalues.proofs.page.Page.hex.Given as goal

abbrev pub invariant-loop-byte : goal.invariant-loop-byte
invariant-loop-byte l = text_of l.self ≡ text_of l.initial.self ++ digits_of (take l.byte-index l.bytes)
