-- The example of document 01, "The printer": the rows of its input, and "the whole output". Assumes nothing.
use Rattle.std.specs.Prelude.{ℕ, List, [], ◌∷◌, ◌++◌, None, Some}
use Prim.Native.String.{String}
use Rattle.text.specs.Bytes.{bytes}
use Rattle.text.specs.Text.{packed}
use Rattle.board.specs.declared.rows.Row.{Row}

abbrev pub word : String → ℕ
word s = packed (bytes s)

-- lines 1, 2 and 3 of the input are about QQX12, line 4 is about N5AB, and line 5 is not taken
abbrev pub example_rows : List Row
example_rows =
    record {
      key = record { 0 = word "N5AB" };
      arrival = Some (record {
        departure = record { 0 = word "GHI" };
        destination = record { 0 = word "JKL" };
        clock = record { 0 = word "A0810" };
        stamp = record { 0 = word "06081800" };
      });
      track = None;
    }
    ∷ record {
      key = record { 0 = word "QQX12" };
      arrival = Some (record {
        departure = record { 0 = word "ABC" };
        destination = record { 0 = word "DEF" };
        clock = record { 0 = word "0930" };
        stamp = record { 0 = word "06081600" };
      });
      track = Some (record {
        speed = record { 0 = word "315" };
        level = record { 0 = word "250C" };
        position = record { 0 = word "3020N/08430W" };
        stamp = record { 0 = word "06081700" };
      });
    }
    ∷ []

-- a line with its line feed
abbrev pub ended : String → List ℕ
ended s = bytes s ++ 10 ∷ []

-- its first three lines, and its last
abbrev pub example_board : List ℕ
example_board = ended "FLIGHTS 2" ++ ended "N5AB GHI JKL A0810 - - - -" ++ ended "QQX12 ABC DEF 0930 06081700 315 250C 3020N/08430W"

abbrev pub example_counts : List ℕ
example_counts = ended "LINES 5 TAKEN 4"
