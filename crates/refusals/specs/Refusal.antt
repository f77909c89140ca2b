-- The refusals and their numbers (document 01, "Refusals by who can cause them", and the requests of document 02); no other definition holds one.
use Rattle.std.specs.Prelude.{ℕ, Result, Ok, Err}
use Rattle.refusals.specs.declared.Refusal.{Refusal}
use Rattle.refusals.specs.declared.Refusal.TheVariants.{
  FileEmpty,
  Version,
  RecordCut,
  RecordKind,
  OutOfTurn,
  BodyLength,
  FileEnds,
  Header,
  Matrix,
  QuantizerScale,
  SliceStart,
  MacroblockType,
  AddressIncrement,
  VectorCode,
  Pattern,
  Coefficient,
  DcCoefficient,
  ForwardVectorOutside,
  BackwardVectorOutside,
  MacroblockLimit,
  OutputLength,
  ForwardLength,
  BackwardLength,
  NumberOutOfRange,
  VectorUnreachable,
  SliceCode,
  SliceCut,
  RecordsLength,
}

-- the number of an acceptance
abbrev pub accepted : ℕ
accepted = 0

abbrev pub number_of : Refusal → ℕ
-- the file is empty
number_of FileEmpty = 1
-- its version is not 3
number_of Version = 2
-- a record is cut: fewer than 3 bytes left, length 0, or past the end
number_of RecordCut = 3
-- a record's kind is not 1..4
number_of RecordKind = 4
-- a record is out of turn
number_of OutOfTurn = 5
-- a record's body is too short or too long
number_of BodyLength = 6
-- the file ends with macroblocks or the header missing
number_of FileEnds = 7
-- a header field is illegal
number_of Header = 8
-- a matrix: which above 1, given twice, a weight 0, intra first weight not 8
number_of Matrix = 9
-- a quantizer scale is not 1..31
number_of QuantizerScale = 10
-- a slice's start is not the next address
number_of SliceStart = 11
-- a macroblock's type is not legal in a picture of this type
number_of MacroblockType = 12
-- an address increment is illegal
number_of AddressIncrement = 13
-- a motion code or its residual is out of range
number_of VectorCode = 14
-- a coded block pattern is not 1..63
number_of Pattern = 15
-- a count or a level is out of range, or a position is past 63
number_of Coefficient = 16
-- a DC difference outside -255..255, or a DC outside 0..2040
number_of DcCoefficient = 17
-- a vector doesn't fit; request No. 1: "From now on 18 speaks of the forward vector alone"
number_of ForwardVectorOutside = 18
-- the output, the forward or the backward reference has the wrong length
number_of OutputLength = 19
number_of ForwardLength = 20
number_of BackwardLength = 21
-- a number out of range, given straight to the coefficient, transform or vector entry
number_of NumberOutOfRange = 22
-- request No. 1: "23 when the backward vector doesn't fit"
number_of BackwardVectorOutside = 23
-- request No. 2, raw slices: "24 when the bits left, however they went on, begin no code (a forbidden level is none), the row isn't in the
-- picture, or a code takes an increment past 396 or a coefficient past position 63"
number_of SliceCode = 24
-- "25 when the bytes end before the first macroblock, or one begun, is whole"
number_of SliceCut = 25
-- "26 when the records don't fit the buffer, tested last"
number_of RecordsLength = 26
-- request No. 4: "27 when a header that 8 lets through has more than 99 macroblocks on the cab's panel": more than the reader's limit
number_of MacroblockLimit = 27
-- request No. 12, writing a vector: "33 when no pair reaches the wanted vector, or past or f_code is out of range"
number_of VectorUnreachable = 33

-- the number of an answer: 0 if there is a value, and otherwise that of the refusal
abbrev pub number_in : {A : Type 0} → Result A Refusal → ℕ
number_in (Ok value) = accepted
number_in (Err refusal) = number_of refusal

-- the value in an answer, and this one if it is refused
abbrev pub value_in : {A : Type 0} → A → Result A Refusal → A
value_in other (Ok value) = value
value_in other (Err refusal) = other
