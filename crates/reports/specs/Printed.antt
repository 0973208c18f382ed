-- THE PRINTED CASE of document 01 ("The printer"): "For this input .. the whole output is ..". Assumes nothing.
use Rattle.std.specs.Prelude.{ℕ, List, ◌++◌}
use Prim.Native.String.{String}
use Rattle.printer.specs.Example.{ended, example_board, example_counts}

abbrev pub line1 : String
line1 = "000106081500KZAATZ QQX12/101 310 240 3015N/08430W"

abbrev pub line2 : String
line2 = "000206081600KZAADZ QQX12/101 C172/A ABC D0816 DEF 0930"

abbrev pub line3 : String
line3 = "000306081700KZAATZ QQX12/101 315 250C 3020N/08430W"

abbrev pub line4 : String
line4 = "000406081800KZAAAZ N5AB GHI JKL A0810"

abbrev pub line5 : String
line5 = "000506081900KZAATZ QQX12 315 250 3020N/08430W"

-- "this input"
abbrev pub example_input : List ℕ
example_input = ended line1 ++ ended line2 ++ ended line3 ++ ended line4 ++ ended line5

-- "the whole output"
abbrev pub example_output : List ℕ
example_output = example_board ++ example_counts
