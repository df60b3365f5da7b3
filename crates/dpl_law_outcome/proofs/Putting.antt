-- Whole records put one behind the other.
use Rattle.std.proofs.Common.{◌≡◌, ℕ, ◌+◌, ◌-◌, ◌<◌, ◌≤◌, List, ◌++◌, length, get_or, take, drop, Ok, sym, subst, ap, ◌∙◌, arith}
use Rattle.std.specs.Prelude.{slice_index, slice_range}
use Rattle.std.proofs.lemmas.List.{get_or-take, get_or-drop, get_or_append_left, get_or-append-add, drop-append-le, drop-take}
use Rattle.std.proofs.lemmas.List.{length-append, length-take, length-take-le, length-drop, take_all, drop-drop}
use Rattle.std.proofs.Math.Seq.{drop-append-add, take-append_seam, take-length}
use Rattle.dpl_spec_format.specs.Records.{Record, record_at}
use Rattle.dpl_spec_format.specs.Tree.{whole}
use Rattle.dpl_law_outcome.proofs.Moving.{Agree, agreeing, built-of}

-- these bytes are one record of this type, with this data
abbrev pub IsRecord : List ℕ → ℕ → List ℕ → Type 0
IsRecord w kind body = record_at w 0 ≡ Ok (record { at = 0; next = length w; kind = kind; body = body })

-- that record behind what stands before it
abbrev pub rec : List ℕ → List ℕ → ℕ → List ℕ → Record
rec pre w kind body = record { at = length pre; next = length (pre ++ w); kind = kind; body = body }

-- an index behind what stands before
index-behind : (pre w post : List ℕ) (k : ℕ) → k < length w → slice_index (pre ++ (w ++ post)) (length pre + k) ≡ slice_index w (0 + k)
index-behind pre w post k l = get_or-append-add pre (w ++ post) k 0 ∙ get_or_append_left w post 0 k l ∙ ap (λ n. get_or w n 0) (omega arith)

body-behind : (pre w post : List ℕ) → 4 ≤ length w → slice_range (pre ++ (w ++ post)) (length pre + 4) (length pre + length w) ≡ slice_range w (0 + 4) (0 + length w)
body-behind pre w post long =
    let rest : drop (length pre + 4) (pre ++ (w ++ post)) ≡ drop 4 w ++ post = drop-append-add pre (w ++ post) 4 ∙ drop-append-le 4 w post long in
    let size : length (drop 4 w) ≡ length w - 4 = length-drop 4 w in
    let here : (length pre + length w) - (length pre + 4) ≡ length (drop 4 w) = omega (arith, size, long) in
    let there : (0 + length w) - (0 + 4) ≡ length (drop 4 w) = omega (arith, size, long) in
    (λ i. take (here i) (rest i)) ∙ take-append_seam (drop 4 w) post ∙ sym (ap (λ n. take n (drop 4 w)) there ∙ take-length (drop 4 w))

pub put : (out pre w post : List ℕ) (kind : ℕ) (body : List ℕ) → out ≡ pre ++ (w ++ post) → IsRecord w kind body → record_at out (length pre) ≡ Ok (rec pre w kind body)
put out pre w post kind body is e =
    let r : Record = record { at = 0; next = length w; kind = kind; body = body } in
    let b = built-of w 0 r e in
    let long : 4 ≤ length w = (let l = b.long in let f = b.fits in omega (arith, l, f)) in
    let ys = pre ++ (w ++ post) in
    let size : length ys ≡ length pre + (length w + length post) = length-append pre (w ++ post) ∙ ap (λ n. length pre + n) (length-append w post) in
    let agree : Agree w ys 0 (length pre) (length w) = record { bytes = index-behind pre w post; body = body-behind pre w post long; room = omega (arith, size) } in
    let none : length w ≡ length w - 0 = omega arith in
    let there = agreeing w ys 0 (length pre) r e (subst (Agree w ys 0 (length pre)) none agree) in
    let end : length pre + (length w - 0) ≡ length (pre ++ w) = (let l = length-append pre w in omega (arith, l)) in
    ap (λ x. record_at x (length pre)) is ∙ there ∙ ap (λ n. Ok (record { at = length pre; next = n; kind = kind; body = body })) end

drop-both : (xs : List ℕ) (i : ℕ) → drop 4 (drop i xs) ≡ drop (i + 4) xs
drop-both xs i = drop-drop 4 i xs

-- the bytes of a whole record are that record
pub lifted : (xs : List ℕ) (i : ℕ) (r : Record) → record_at xs i ≡ Ok r → IsRecord (whole xs r) r.kind r.body
lifted xs i r e =
    let b = built-of xs i r e in
    let start : i ≡ r.at = ap (λ x. let y : Record = x in y.at) b.is in
    let stop = ap (λ x. let y : Record = x in y.next) b.is in
    let long = b.long in
    let fits = b.fits in
    let n : ℕ = r.next - r.at in
    let zs : List ℕ = drop r.at xs in
    let w : List ℕ = take n zs in
    let room : length zs ≡ length xs - r.at = length-drop r.at xs in
    let size : length w ≡ n = length-take-le n zs (omega (arith, room, start, stop, long, fits)) in
    let m : ℕ = n - 4 in
    let split : n ≡ 4 + m = omega (arith, start, stop, long) in
    let body : slice_range w (0 + 4) (0 + n) ≡ slice_range xs (r.at + 4) (r.at + n) =
    (let short : (0 + n) - (0 + 4) ≡ m = omega (arith, split) in
    let other : (r.at + n) - (r.at + 4) ≡ m = omega (arith, split) in
    let inner : drop 4 w ≡ take m (drop (r.at + 4) xs) = ap (λ k. drop 4 (take k zs)) split ∙ drop-take 4 m zs ∙ ap (take m) (drop-both xs r.at) in
    let l = length-take m (drop (r.at + 4) xs) in
    (λ j. take (short j) (inner j)) ∙ take_all m (take m (drop (r.at + 4) xs)) (omega (arith, l)) ∙ ap (λ k. take k (drop (r.at + 4) xs)) (sym other)) in
    let agree : Agree xs w r.at 0 n = record {
      bytes = λ k l. ap (λ j. get_or w j 0) (omega arith) ∙ get_or-take n zs k 0 l ∙ get_or-drop r.at xs k 0;
      body = body;
      room = omega (arith, size);
    } in
    let there = agreeing xs w r.at 0 r (ap (record_at xs) (sym start) ∙ e) agree in
    let end : 0 + n ≡ length w = omega (arith, size) in
    there ∙ ap (λ k. Ok (record { at = 0; next = k; kind = r.kind; body = r.body })) end
