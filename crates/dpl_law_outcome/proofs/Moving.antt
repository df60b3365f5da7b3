-- A whole record's bytes, put elsewhere, give the same record there.
use Rattle.std.proofs.Common.{◌≡◌, ℕ, ◌+◌, ◌-◌, ◌*◌, ◌<◌, ◌≤◌, Bool, true, false, ◌||◌, List, length, Option, Some, None, Result, Ok, Err, refl, sym, subst, ap, ◌∙◌, arith}
use Rattle.std.specs.Prelude.{nat_lt, ◌%◌, ◌==◌, not, slice_index, slice_range, if◌then◌else◌}
use Rattle.std.proofs.lemmas.Bool.{ltb-false, le-ltb}
use Rattle.dpl_spec_format.specs.Fields.{u16_at}
use Rattle.dpl_spec_format.specs.Table.{Form, form_of, type_fits, size_fits}
use Rattle.dpl_spec_format.specs.Faults.{Fault, truncated, bad_length, unknown_record, bad_data_type, bad_size}
use Rattle.dpl_spec_format.specs.Records.{Record, record_at, checked}

-- the same record at another offset
abbrev pub moved : ℕ → Record → Record
moved at r = record { at = at; next = at + (r.next - r.at); kind = r.kind; body = r.body }

-- ---- what a record is made of

abbrev made : ℕ → ℕ → ℕ → List ℕ → Record
made at len kind body = record { at = at; next = at + len; kind = kind; body = body }

abbrev fitting : ℕ → ℕ → ℕ → ℕ → List ℕ → Option Form → Result Record Fault
fitting at len kind t body None = Err (unknown_record at)
fitting at len kind t body (Some form) =
    if not (type_fits form.data_type t) then Err (bad_data_type at)
    else if not (size_fits form.size (len - 4)) then Err (bad_size at)
    else Ok (made at len kind body)

abbrev built : ℕ → ℕ → ℕ → ℕ → ℕ → List ℕ → Result Record Fault
built at room len kind t body =
    if nat_lt room 4 then Err (truncated at)
    else if nat_lt len 4 || (len % 2 == 1) then Err (bad_length at)
    else if nat_lt room len then Err (truncated at)
    else fitting at len kind t body (form_of kind)

checked-fitting : (bytes : List ℕ) (at len : ℕ) (o : Option Form) → checked bytes at len o ≡ fitting at len (slice_index bytes (at + 2))
    (slice_index bytes (at + 3)) (slice_range bytes (at + 4) (at + len)) o
checked-fitting bytes at len None = refl
checked-fitting bytes at len (Some form) = refl

record-built : (bytes : List ℕ) (at : ℕ)
    → record_at bytes at ≡ built at (length bytes - at) (u16_at bytes at) (slice_index bytes (at + 2)) (slice_index bytes (at + 3))
    (slice_range bytes (at + 4) (at + u16_at bytes at))
unfolding record_at
record-built bytes at =
    let len = u16_at bytes at in
    ap (λ x. let y : Result Record Fault = x in
    if nat_lt (length bytes - at) 4 then Err (truncated at) else if nat_lt len 4 || (len % 2 == 1) then Err
    (bad_length at) else if nat_lt (length bytes - at) len then Err (truncated at) else y)
    (checked-fitting bytes at len (form_of (slice_index bytes (at + 2))))

if_ok : (b : Bool) (f : Fault) (y : Result Record Fault) (r : Record) → (if b then Err f else y) ≡ Ok r → (b ≡ false) × (y ≡ Ok r)
if_ok true f y r e = absurd cc
if_ok false f y r e = (refl, e)

ok_if : (b : Bool) (f : Fault) (y : Result Record Fault) (r : Record) → b ≡ false → y ≡ Ok r → (if b then Err f else y) ≡ Ok r
ok_if true f y r e h = absurd cc
ok_if false f y r e h = h

not_first : (b c : Bool) → b || c ≡ false → b ≡ false
not_first true c e = e
not_first false c e = refl

fitting-moved : (at to len kind t : ℕ) (body : List ℕ) (o : Option Form) (r : Record) → fitting at len kind t body o ≡ Ok r
    → (made at len kind body ≡ r) × (fitting to len kind t body o ≡ Ok (made to len kind body))
fitting-moved at to len kind t body None r e = absurd cc
fitting-moved at to len kind t body (Some form) r e =
    let (a, e1) = if_ok (not (type_fits form.data_type t)) (bad_data_type at) (if not (size_fits form.size (len - 4)) then Err (bad_size at) else Ok (made at len kind body)) r e in
    let (b, e2) = if_ok (not (size_fits form.size (len - 4))) (bad_size at) (Ok (made at len kind body)) r e1 in (
      cc,
      ok_if (not (type_fits form.data_type t)) (bad_data_type to) (if not (size_fits form.size (len - 4)) then Err (bad_size to) else Ok
          (made to len kind body)) (made to len kind body) a
          (ok_if (not (size_fits form.size (len - 4))) (bad_size to) (Ok (made to len kind body)) (made to len kind body) b refl),
    )

pub record IsBuilt (at room len kind t : ℕ) (body : List ℕ) (r : Record) : Type 0 where
  pub long : 4 ≤ len
  pub fits : len ≤ room
  pub is : made at len kind body ≡ r
  pub again : (to more : ℕ) → len ≤ more → built to more len kind t body ≡ Ok (made to len kind body)

built-moved : (at room len kind t : ℕ) (body : List ℕ) (r : Record) → built at room len kind t body ≡ Ok r → IsBuilt at room len kind t body r
built-moved at room len kind t body r e =
    let rest : Result Record Fault = fitting at len kind t body (form_of kind) in
    let (a, e1) = if_ok (nat_lt room 4) (truncated at) (if nat_lt len 4 || (len % 2 == 1) then Err (bad_length at) else if nat_lt room len then Err (truncated at) else rest) r e in
    let (b, e2) = if_ok (nat_lt len 4 || (len % 2 == 1)) (bad_length at) (if nat_lt room len then Err (truncated at) else rest) r e1 in
    let (c, e3) = if_ok (nat_lt room len) (truncated at) rest r e2 in
    let long : 4 ≤ len = ltb-false len 4 (not_first (nat_lt len 4) (len % 2 == 1) b) in
    record {
      long = long;
      fits = ltb-false room len c;
      is = (fitting-moved at at len kind t body (form_of kind) r e3).0;
      again = λ to more enough.
          let end : Record = made to len kind body in
          let back : Result Record Fault = fitting to len kind t body (form_of kind) in
          ok_if (nat_lt more 4) (truncated to) (if nat_lt len 4 || (len % 2 == 1) then Err (bad_length to) else if nat_lt more len then Err
          (truncated to) else back) end (le-ltb more 4 (omega (arith, long, enough)))
          (ok_if (nat_lt len 4 || (len % 2 == 1)) (bad_length to) (if nat_lt more len then Err (truncated to) else back) end b
          (ok_if (nat_lt more len) (truncated to) back end (le-ltb more len enough) (fitting-moved at to len kind t body (form_of kind) r e3).1));
    }

pub built-of : (bytes : List ℕ) (at : ℕ) (r : Record) → record_at bytes at ≡ Ok r
    → IsBuilt at (length bytes - at) (u16_at bytes at) (slice_index bytes (at + 2)) (slice_index bytes (at + 3)) (slice_range bytes (at + 4) (at + u16_at bytes at)) r
built-of bytes at r e = built-moved at (length bytes - at) (u16_at bytes at) (slice_index bytes (at + 2)) (slice_index bytes (at + 3))
    (slice_range bytes (at + 4) (at + u16_at bytes at)) r (sym (record-built bytes at) ∙ e)

-- two lists of bytes that agree on a record
pub record Agree (xs ys : List ℕ) (i j len : ℕ) : Type 0 where
  pub bytes : (k : ℕ) → k < len → slice_index ys (j + k) ≡ slice_index xs (i + k)
  pub body : slice_range ys (j + 4) (j + len) ≡ slice_range xs (i + 4) (i + len)
  pub room : len ≤ length ys - j

rebuilt : (j room l m k1 k2 t1 t2 : ℕ) (b1 b2 : List ℕ) (r : Record) → l ≡ m → k1 ≡ k2 → t1 ≡ t2 → b1 ≡ b2 → built j room m k2 t2 b2 ≡ Ok r → built j room l k1 t1 b1 ≡ Ok r
rebuilt j room l m k1 k2 t1 t2 b1 b2 r e f g h is = (λ i. built j room (e i) (f i) (g i) (h i)) ∙ is

pub agreeing : (xs ys : List ℕ) (i j : ℕ) (r : Record) → record_at xs i ≡ Ok r → Agree xs ys i j (r.next - r.at) → record_at ys j ≡ Ok (moved j r)
agreeing xs ys i j r e a =
    let b = built-of xs i r e in
    let len = u16_at xs i in
    let start : i ≡ r.at = ap (λ x. let y : Record = x in y.at) b.is in
    let end : i + len ≡ r.next = ap (λ x. let y : Record = x in y.next) b.is in
    let size : r.next - r.at ≡ len = omega (arith, start, end) in
    let long = b.long in
    let same : Agree xs ys i j len = subst (Agree xs ys i j) size a in
    let at_0 : slice_index ys j ≡ slice_index xs i = subst (λ n. slice_index ys n ≡ slice_index xs i) (omega arith)
    (subst (λ n. slice_index ys (j + 0) ≡ slice_index xs n) (omega arith) (same.bytes 0 (omega (arith, long)))) in
    let at_1 = same.bytes 1 (omega (arith, long)) in
    let len_is : u16_at ys j ≡ len = (λ n. 256 * at_0 n + at_1 n) in
    let body_is : slice_range ys (j + 4) (j + u16_at ys j) ≡ slice_range xs (i + 4) (i + len) = ap (λ n. slice_range ys (j + 4) (j + n)) len_is ∙ same.body in
    let there = rebuilt j (length ys - j) (u16_at ys j) len (slice_index ys (j + 2)) (slice_index xs (i + 2)) (slice_index ys (j + 3))
    (slice_index xs (i + 3)) (slice_range ys (j + 4) (j + u16_at ys j)) (slice_range xs (i + 4) (i + len))
    (made j len (slice_index xs (i + 2)) (slice_range xs (i + 4) (i + len)))
    len_is (same.bytes 2 (omega (arith, long))) (same.bytes 3 (omega (arith, long))) body_is (b.again j (length ys - j) same.room) in
    let is : made j len (slice_index xs (i + 2)) (slice_range xs (i + 4) (i + len)) ≡ moved j r =
    (λ n. record { at = j; next = j + sym size n; kind = (b.is n).kind; body = (b.is n).body }) in
    record-built ys j ∙ there ∙ ap (λ x. Ok x) is
