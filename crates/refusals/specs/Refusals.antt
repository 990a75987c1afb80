-- The number of each refusal, its sort, and how it is written. Assumes nothing.
use Rattle.std.specs.Prelude.{ℕ, List, ◌++◌, codes, decimal}
use Rattle.refusals.specs.declared.Why.{Why}
use Rattle.refusals.specs.declared.Why.TheVariants.{Missing, OtherType, UnknownType, ChildSize, NoClosingZero, NotUtf8, TooShort, NoChildSize, PointerLength, PastContainer, ChoiceType, TooFewValues, TooDeep, TooLong, NoProperty, OtherKey, NoParty, NotANumber, Shut, TooManyRows, NoRow, NotSettable, OtherKind, NoElement, Locked, Forbidden, VisitorRefused, EndTooEarly, NoElementLeft}
use Rattle.refusals.specs.declared.Refusal.{Refusal}
use Rattle.refusals.specs.declared.Sort.{Sort}
use Rattle.refusals.specs.declared.Sort.TheVariants.{Nom, UnsupportedType, InvalidType, PropertyMissing, PropertyWrongKey, InvalidChoiceType, MissingChoiceValues, Unknown}

abbrev pub number : Why → ℕ
number Missing = 1
number OtherType = 2
number UnknownType = 3
number ChildSize = 4
number NoClosingZero = 5
number NotUtf8 = 6
number TooShort = 7
number NoChildSize = 8
number PointerLength = 9
number PastContainer = 10
number ChoiceType = 11
number TooFewValues = 12
number TooDeep = 13
number TooLong = 14
number NoProperty = 15
number (OtherKey key) = 16
number NoParty = 17
number NotANumber = 18
number Shut = 21
number TooManyRows = 22
number NoRow = 23
number NotSettable = 24
number OtherKind = 25
number NoElement = 26
number Locked = 27
number Forbidden = 28
number (VisitorRefused own) = 29
number EndTooEarly = 30
number NoElementLeft = 31

-- the case of the error type of crate libspa that it is, or that the crate does not know it
abbrev pub sort_of : Why → Sort
sort_of Missing = Nom
sort_of OtherType = Nom
sort_of UnknownType = InvalidType
sort_of ChildSize = Nom
sort_of NoClosingZero = Nom
sort_of NotUtf8 = Nom
sort_of TooShort = Unknown
sort_of NoChildSize = Unknown
sort_of PointerLength = Unknown
sort_of PastContainer = Unknown
sort_of ChoiceType = InvalidChoiceType
sort_of TooFewValues = MissingChoiceValues
sort_of TooDeep = Unknown
sort_of TooLong = Unknown
sort_of NoProperty = PropertyMissing
sort_of (OtherKey key) = PropertyWrongKey
sort_of NoParty = Unknown
sort_of NotANumber = Unknown
sort_of Shut = Unknown
sort_of TooManyRows = Unknown
sort_of NoRow = Unknown
sort_of NotSettable = Unknown
sort_of OtherKind = Unknown
sort_of NoElement = Unknown
sort_of Locked = Unknown
sort_of Forbidden = Unknown
sort_of (VisitorRefused own) = UnsupportedType
sort_of EndTooEarly = Unknown
sort_of NoElementLeft = Unknown

-- a refusal as it is written: number, place and depth
abbrev pub refusal_text : Refusal → List ℕ
refusal_text e =
    codes "refused " ++ (decimal (number e.why) ++ (codes " " ++ (decimal e.spot.place ++ (codes " " ++ decimal e.spot.depth))))
