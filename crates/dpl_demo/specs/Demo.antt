-- A made-up layout of any number of rows, from a number.
use Rattle.std.specs.Prelude.{ℕ, zero, suc, pos, ◌+◌, ◌*◌, ◌/◌, ◌%◌, ◌^◌, List, [], ◌∷◌, ◌++◌, codes}
use Rattle.dpl_spec_split.specs.declared.Rect.{Rect}
use Rattle.dpl_masks.specs.Bytes.{boundaries_bytes, closing_bytes, record_bytes}

-- the number behind x, by a linear congruence modulo 2 ^ 64
abbrev pub next_number : ℕ → ℕ
next_number x = (x * 6364136223846793005 + 1442695040888963407) % 2 ^ 64

-- number i, from 0; number 0 is the seed itself, and the gap of row i is by number i + 1
unfoldable pub number_of : ℕ → ℕ → ℕ
number_of seed zero = seed
number_of seed (suc i) = next_number (number_of seed i)

-- where the gap that a number gives begins
abbrev pub gap_by : ℕ → ℕ
gap_by x = 100 + (x / 2 ^ 32) % 1700

-- the bar from column x0 up to but not x1, 20 high, at the bottom of a row
abbrev pub bar : ℕ → ℕ → ℕ → Rect
bar row x0 x1 = record { x0 = pos x0; y0 = pos (40 * row); x1 = pos x1; y1 = pos (40 * row + 20) }

-- a row: two bars in the columns 0 to 1999, with a gap of 100 between them
abbrev pub row_bars : ℕ → ℕ → List Rect
row_bars row gap = bar row 0 gap ∷ bar row (gap + 100) 2000 ∷ []

-- the bars of the first rows, one row above the other
unfoldable pub bars : ℕ → ℕ → List Rect
bars seed zero = []
bars seed (suc i) = bars seed i ++ row_bars i (gap_by (number_of seed (suc i)))

abbrev pub zeros_24 : List ℕ
zeros_24 = 0 ∷ 0 ∷ 0 ∷ 0 ∷ 0 ∷ 0 ∷ 0 ∷ 0 ∷ 0 ∷ 0 ∷ 0 ∷ 0 ∷ 0 ∷ 0 ∷ 0 ∷ 0 ∷ 0 ∷ 0 ∷ 0 ∷ 0 ∷ 0 ∷ 0 ∷ 0 ∷ 0 ∷ []

-- a thousandth of a user unit, and a billionth of a metre, as eight-byte reals
abbrev pub units : List ℕ
units = 62 ∷ 65 ∷ 137 ∷ 55 ∷ 75 ∷ 198 ∷ 167 ∷ 240 ∷ 57 ∷ 68 ∷ 184 ∷ 47 ∷ 160 ∷ 155 ∷ 90 ∷ 84 ∷ []

-- HEADER, BGNLIB, LIBNAME and UNITS of a library LIB, BGNSTR and STRNAME of a structure TOP
abbrev pub opening_bytes : List ℕ
opening_bytes =
    record_bytes 0 2 (2 ∷ 88 ∷ [])
    ++ (record_bytes 1 2 zeros_24
    ++ (record_bytes 2 6 (codes "LIB" ++ 0 ∷ [])
    ++ (record_bytes 3 5 units
    ++ (record_bytes 5 2 zeros_24
    ++ record_bytes 6 6 (codes "TOP" ++ 0 ∷ [])))))

-- the file: the bars of all rows, each a boundary on layer 1, in one structure
abbrev pub demo_file : ℕ → ℕ → List ℕ
demo_file seed rows = opening_bytes ++ (boundaries_bytes 1 (bars seed rows) ++ closing_bytes)
