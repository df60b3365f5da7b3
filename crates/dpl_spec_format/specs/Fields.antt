-- What the bytes of a record's data stand for. All integers are big-endian, and signed ones are two's complement.
use Rattle.std.specs.Prelude.{ℕ, ◌+◌, ◌*◌, ℤ, List, [], ◌∷◌, slice_index, slice_range, if◌then◌else◌, ◌==◌}
use Rattle.std.specs.Int.{w16, w32, cast_signed}

-- the number in the two bytes from i on
abbrev pub u16_at : List ℕ → ℕ → ℕ
u16_at body i = 256 * slice_index body i + slice_index body (i + 1)

-- the number in the four bytes from i on
abbrev pub u32_at : List ℕ → ℕ → ℕ
u32_at body i = 65536 * u16_at body i + u16_at body (i + 2)

abbrev pub i16_at : List ℕ → ℕ → ℤ
i16_at body i = cast_signed w16 (u16_at body i)

abbrev pub i32_at : List ℕ → ℕ → ℤ
i32_at body i = cast_signed w32 (u32_at body i)

-- the eight bytes of a real
abbrev pub real_at : List ℕ → ℕ → List ℕ
real_at body i = slice_range body i (i + 8)

-- b in front of a name, where a zero is dropped if nothing follows it
abbrev pub in_front : ℕ → List ℕ → List ℕ
in_front b [] = if b == 0 then [] else b ∷ []
in_front b (c ∷ cs) = b ∷ c ∷ cs

-- the bytes without the zeros at their end
unfoldable pub name_of : List ℕ → List ℕ
name_of [] = []
name_of (b ∷ bs) = in_front b (name_of bs)
