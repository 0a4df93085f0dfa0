-- The number of each refusal, of document 01 or of the request that adds it.
use Rattle.std.specs.Prelude.{ℕ}
use Rattle.refusals.specs.declared.Refusal.{Refusal}
use Rattle.refusals.specs.declared.Refusal.TheVariants.{
  LineTooLong,
  UnknownLetter,
  FieldCount,
  MalformedId,
  MalformedNumber,
  OutOfRange,
  HalfLink,
  BrokenState,
  ShortBuffer,
  TablesFull,
  PlotsFull,
  IdStands,
  NoParent,
  NoTable,
  NoPlot,
  ClassLacking,
  NothingFits,
  RunOver,
  ShortForText,
}

abbrev pub number_of : Refusal → ℕ
-- from the line
number_of LineTooLong = 1
number_of UnknownLetter = 2
number_of FieldCount = 3
number_of MalformedId = 4
number_of MalformedNumber = 5
number_of OutOfRange = 6
number_of HalfLink = 7
-- from the state handed in, and the buffer
number_of BrokenState = 9
number_of ShortBuffer = 10
-- from the book and the tallies
number_of TablesFull = 11
number_of PlotsFull = 12
number_of IdStands = 13
number_of NoParent = 14
number_of NoTable = 15
number_of NoPlot = 16
number_of ClassLacking = 17
number_of NothingFits = 18
number_of RunOver = 19
-- from the text of the book (02: U1)
number_of ShortForText = 20
