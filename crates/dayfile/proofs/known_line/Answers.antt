-- `known_line` meets its contract. Assumes nothing.
use mathlib.Core.Path.{ap}
use Prim.Native.Nat.{◌+◌, ◌≤◌}
use native.Mathlib.Omega.{arith}
use Rattle.shapes.specs.Picture.{starts_at}
use Rattle.dayfile.specs.DayFile.{version1}
use Rattle.dayfile.proofs.Numbered.{Has, offset_inside, offset_few, before_index, place_told, line_inside, line_told}
use Rattle.dayfile.proofs.known_line.Goals as goal

pub overflow_mul-at : goal.overflow_mul-at
overflow_mul-at c =
    let has : Has version1 c.args.file.now c.args.day c.args.number = record { opened = record { told = c.requires.file_value }; some = c.requires.number_nonzero; there = c.requires.number_le_lines } in
    omega (arith, offset_inside has)

pub overflow_add-at : goal.overflow_add-at
overflow_add-at c =
    let has : Has version1 c.args.file.now c.args.day c.args.number = record { opened = record { told = c.requires.file_value }; some = c.requires.number_nonzero; there = c.requires.number_le_lines } in
    omega (arith, offset_inside has)

pub overflow_add-at-2 : goal.overflow_add-at-2
overflow_add-at-2 c =
    let has : Has version1 c.args.file.now c.args.day c.args.number = record { opened = record { told = c.requires.file_value }; some = c.requires.number_nonzero; there = c.requires.number_le_lines } in
    omega (arith, offset_inside has)

pub slice_bounds-read_number-end : goal.slice_bounds-read_number-end
slice_bounds-read_number-end c =
    let has : Has version1 c.args.file.now c.args.day c.args.number = record { opened = record { told = c.requires.file_value }; some = c.requires.number_nonzero; there = c.requires.number_le_lines } in
    omega (arith, offset_inside has)

pub read_number-from-requires : goal.read_number-from-requires
read_number-from-requires c =
    let has : Has version1 c.args.file.now c.args.day c.args.number = record { opened = record { told = c.requires.file_value }; some = c.requires.number_nonzero; there = c.requires.number_le_lines } in
    offset_few has

pub slice_bounds-line_size-count : goal.slice_bounds-line_size-count
slice_bounds-line_size-count c =
    let has : Has version1 c.args.file.now c.args.day c.args.number = record { opened = record { told = c.requires.file_value }; some = c.requires.number_nonzero; there = c.requires.number_le_lines } in
    before_index has _ c.read_number-from.ensures.value

pub slice_bounds-line_size-start : goal.slice_bounds-line_size-start
slice_bounds-line_size-start c =
    let has : Has version1 c.args.file.now c.args.day c.args.number = record { opened = record { told = c.requires.file_value }; some = c.requires.number_nonzero; there = c.requires.number_le_lines } in
    let from : c.read_number-from.result ≤ c.args.day.start = before_index has _ c.read_number-from.ensures.value in
    omega (arith, from)

pub slice_bounds-line_size-end : goal.slice_bounds-line_size-end
slice_bounds-line_size-end c =
    let has : Has version1 c.args.file.now c.args.day c.args.number = record { opened = record { told = c.requires.file_value }; some = c.requires.number_nonzero; there = c.requires.number_le_lines } in
    omega (arith, offset_inside has)

pub overflow_add-result : goal.overflow_add-result
overflow_add-result c =
    let has : Has version1 c.args.file.now c.args.day c.args.number = record { opened = record { told = c.requires.file_value }; some = c.requires.number_nonzero; there = c.requires.number_le_lines } in
    let inside : (1 ≤ c.line_size-size.result) × (c.read_number-from.result + c.line_size-size.result ≤ c.args.day.start) = line_inside has _ c.read_number-from.ensures.value _ c.line_size-size.ensures in
    omega (arith, inside, offset_inside has)

pub overflow_sub-result : goal.overflow_sub-result
overflow_sub-result c =
    let has : Has version1 c.args.file.now c.args.day c.args.number = record { opened = record { told = c.requires.file_value }; some = c.requires.number_nonzero; there = c.requires.number_le_lines } in
    let inside : (1 ≤ c.line_size-size.result) × (c.read_number-from.result + c.line_size-size.result ≤ c.args.day.start) = line_inside has _ c.read_number-from.ensures.value _ c.line_size-size.ensures in
    omega (arith, inside)

pub slice_bounds-result-count : goal.slice_bounds-result-count
slice_bounds-result-count c =
    let has : Has version1 c.args.file.now c.args.day c.args.number = record { opened = record { told = c.requires.file_value }; some = c.requires.number_nonzero; there = c.requires.number_le_lines } in
    let inside : (1 ≤ c.line_size-size.result) × (c.read_number-from.result + c.line_size-size.result ≤ c.args.day.start) = line_inside has _ c.read_number-from.ensures.value _ c.line_size-size.ensures in
    omega (arith, inside)

pub slice_bounds-result-start : goal.slice_bounds-result-start
slice_bounds-result-start c =
    let has : Has version1 c.args.file.now c.args.day c.args.number = record { opened = record { told = c.requires.file_value }; some = c.requires.number_nonzero; there = c.requires.number_le_lines } in
    let inside : (1 ≤ c.line_size-size.result) × (c.read_number-from.result + c.line_size-size.result ≤ c.args.day.start) = line_inside has _ c.read_number-from.ensures.value _ c.line_size-size.ensures in
    omega (arith, inside)

pub slice_bounds-result-end : goal.slice_bounds-result-end
slice_bounds-result-end c =
    let has : Has version1 c.args.file.now c.args.day c.args.number = record { opened = record { told = c.requires.file_value }; some = c.requires.number_nonzero; there = c.requires.number_le_lines } in
    let inside : (1 ≤ c.line_size-size.result) × (c.read_number-from.result + c.line_size-size.result ≤ c.args.day.start) = line_inside has _ c.read_number-from.ensures.value _ c.line_size-size.ensures in
    omega (arith, inside, offset_inside has)

pub returns : goal.returns
returns c =
    let has : Has version1 c.args.file.now c.args.day c.args.number = record { opened = record { told = c.requires.file_value }; some = c.requires.number_nonzero; there = c.requires.number_le_lines } in
    record {
      result_value = line_told has _ c.read_number-from.ensures.value _ c.line_size-size.ensures;
      ref_ptr_value = ap (starts_at _) (place_told has _ c.read_number-from.ensures.value);
    }
